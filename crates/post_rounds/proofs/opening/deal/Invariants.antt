-- The first callers have got their passes, and the others are as before.
use Rattle.std.proofs.Common.{◌≡◌, ◌++◌, length}
use Rattle.std.specs.Vec.Iter.{into_iter_items}
use Rattle.post_rounds.specs.Hands.{DealtTo}
use Rattle.post_rounds.proofs.opening.deal.Given as goal

abbrev pub invariant-loop-pass : goal.invariant-loop-pass
invariant-loop-pass g l = record {
  whole : l.yielded ++ into_iter_items l.pass-iterator ≡ l.fn.passes;
  at : l.at ≡ length l.yielded;
  dealt : DealtTo l.at l.fn.callers.items l.fn.passes l.callers.items;
}
