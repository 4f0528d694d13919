-- The rules have taken the answers so far, and those that are left are for places of rules.
use Rattle.std.proofs.Common.{◌≡◌, ◌++◌, length, map}
use Rattle.std.specs.Vec.Iter.{into_iter_items}
use Rattle.dsl_value.specs.Contents.{Contents}
use Rattle.wave_objects.specs.Applying.{AppliedShared, AreWithin, HaveTaken}
use Rattle.wave_objects.specs.AtTargets.{AreAnswersShared, plain_placed}
use Rattle.wave_objects.proofs.applying.take_answers.Given as goal

abbrev pub invariant-loop-placed : goal.invariant-loop-placed
invariant-loop-placed l = record {
  whole : l.yielded ++ into_iter_items l.placed-iterator ≡ l.fn.answers.items;
  taken : HaveTaken 0 (map plain_placed l.yielded) l.fn.rules.items l.rules.items;
  within : AreWithin (length l.fn.rules.items) (map plain_placed (into_iter_items l.placed-iterator));
  shared : (s : Contents) → AppliedShared s l.fn.rules.items → AreAnswersShared s l.fn.answers.items → AppliedShared s l.rules.items × AreAnswersShared s (into_iter_items l.placed-iterator);
}
