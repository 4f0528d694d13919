-- The rules have taken the answers at the objects so far.
use Rattle.std.proofs.Common.{◌≡◌, ◌++◌, length, map}
use Rattle.std.specs.List.{AllByRecursion}
use Rattle.std.specs.Vec.Iter.{into_iter_items}
use Rattle.dsl_value.specs.Contents.{Contents}
use Rattle.wave_objects.specs.Applying.{AppliedShared, AreWithin, HaveTaken}
use Rattle.wave_objects.specs.AtTargets.{AreAnswersShared, plain_placed}
use Rattle.wave_objects.specs.Tasks.{all_placed}
use Rattle.wave_objects.proofs.applying_many.take_all.Given as goal

abbrev pub invariant-loop-at_object : goal.invariant-loop-at_object
invariant-loop-at_object l = record {
  whole : l.yielded ++ into_iter_items l.at_object-iterator ≡ l.fn.answers.items;
  taken : HaveTaken 0 (all_placed l.yielded) l.fn.rules.items l.rules.items;
  within : AllByRecursion (λ answers. AreWithin (length l.fn.rules.items) (map plain_placed answers.items)) (into_iter_items l.at_object-iterator);
  shared : (s : Contents) → AppliedShared s l.fn.rules.items → AllByRecursion (λ answers. AreAnswersShared s answers.items) l.fn.answers.items
      → AppliedShared s l.rules.items × AllByRecursion (λ answers. AreAnswersShared s answers.items) (into_iter_items l.at_object-iterator);
}
