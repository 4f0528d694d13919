-- The answers of the rules so far, and those of the rules that are left, are all.
use Rattle.std.proofs.Common.{◌≡◌, ◌++◌, drop, map}
use Rattle.eval_work.specs.Works.{view_of}
use Rattle.apply_rules.specs.Plain.{plain_target}
use Rattle.wave_objects.specs.AtTargets.{AreAnswersShared, PlacedNamed, placed_answers, plain_placed}
use Rattle.wave_objects.proofs.at_targets.answers_at_target.Given as goal

abbrev pub invariant-loop-placed : goal.invariant-loop-placed
invariant-loop-placed l =
    (map plain_placed l.answers.items ++ placed_answers (view_of l.view) (drop l.placed-index l.rules) (plain_target l.prepared.target)
    ≡ placed_answers (view_of l.view) l.rules (plain_target l.prepared.target))
    × (AreAnswersShared l.view.store.now l.answers.items × PlacedNamed l.view.store.now (drop l.placed-index l.rules))
