-- Those found are the dependencies on a cycle so far, and no mark is greater than the last.
use Rattle.std.proofs.Common.{◌≡◌, ◌≤◌, All, length}
use Rattle.site_model.specs.PlainSite.{site_view}
use Rattle.depend_graph.proofs.OnCycle.{AreFound}
use Rattle.depend_graph.proofs.on_cycle.on_cycles.Given as goal

abbrev pub invariant-loop-place : goal.invariant-loop-place
invariant-loop-place l = record {
  long : length l.marks.items ≡ length l.parents;
  most : All (λ m. m ≤ l.place) l.marks.items;
  found : AreFound (site_view l.site) l.place l.found.items;
}
