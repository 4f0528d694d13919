-- The rows of the checkables so far are their hosts, and the others are empty.
use Rattle.std.proofs.Common.{◌≡◌, ℕ, [], length, slice_get, nat_lt, cond}
use Rattle.site_model.specs.PlainSite.{site_view}
use Rattle.run_meaning.specs.Reachability.{host_in}
use Rattle.run_meaning.specs.Turns.{of_index}
use Rattle.depend_graph.proofs.parents.hosts_in.Given as goal

abbrev pub invariant-loop-checkable : goal.invariant-loop-checkable
invariant-loop-checkable l = record {
  long : length l.lists ≡ length (site_view l.site).checkables;
  hosts : (c : ℕ) → of_index c l.lists ≡ cond (nat_lt c l.checkable) (host_in (slice_get (site_view l.site).checkables c)) [];
}
