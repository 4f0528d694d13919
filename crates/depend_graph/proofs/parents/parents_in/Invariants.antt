-- What stands in a row, followed by what the other dependencies give, is its parents.
use Rattle.std.proofs.Common.{◌≡◌, ℕ, ◌<◌, ◌++◌, length, drop}
use Rattle.site_model.specs.PlainSite.{site_view}
use Rattle.run_meaning.specs.Reachability.{parents_of}
use Rattle.run_meaning.specs.Turns.{of_index}
use Rattle.depend_graph.specs.Parents.{given}
use Rattle.depend_graph.proofs.parents.parents_in.Given as goal

abbrev pub invariant-loop-depend : goal.invariant-loop-depend
invariant-loop-depend l = record {
  long : length l.lists ≡ length (site_view l.site).checkables;
  parents : (c : ℕ) → c < length (site_view l.site).checkables → of_index c l.lists ++ given c (drop l.depend-index l.site.depends) ≡ parents_of (site_view l.site) c;
}
