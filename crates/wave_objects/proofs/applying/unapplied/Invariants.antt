-- The rules so far, and those of the wave that are left, are all of the wave.
use Rattle.std.proofs.Common.{◌≡◌, ◌++◌, drop, map}
use Rattle.std.specs.List.{filter}
use Rattle.eval_work.specs.Works.{plain_rule}
use Rattle.commit_meaning.specs.Waves.{is_in_wave}
use Rattle.wave_objects.specs.Applying.{AreNew, rules_of}
use Rattle.wave_objects.proofs.applying.unapplied.Given as goal

abbrev pub invariant-loop-rule : goal.invariant-loop-rule
invariant-loop-rule l =
    (rules_of l.of_wave.items ++ filter (λ r. is_in_wave l.wave r.kind) (map plain_rule (drop l.rule-index l.rules)) ≡ filter (λ r. is_in_wave l.wave r.kind) (map plain_rule l.rules))
    × AreNew l.of_wave.items
