-- Each list so far has its caller.
use Rattle.std.proofs.Common.{◌≡◌, ◌++◌, []}
use Rattle.std.specs.Vec.Iter.{into_iter_items}
use Rattle.post_rounds.specs.Hands.{AreCallers}
use Rattle.post_rounds.proofs.opening.callers_with.Given as goal

abbrev pub invariant-loop-jobs : goal.invariant-loop-jobs
invariant-loop-jobs g l = record {
  whole : l.yielded ++ into_iter_items l.jobs-iterator ≡ l.fn.lists.items;
  are : AreCallers [] l.yielded l.callers.items;
}
