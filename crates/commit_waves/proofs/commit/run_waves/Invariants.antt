use Rattle.std.proofs.Common.{◌-◌}
use Rattle.dsl_load.specs.Loads.{plain_parts}
use Rattle.wave_objects.specs.Plain.{with_items}
use Rattle.commit_waves.proofs.SplitLaws.{IsLeft}
use Rattle.commit_waves.proofs.WaveSteps.{IsAfter}
use Rattle.commit_waves.proofs.commit.run_waves.Given as goal

abbrev pub invariant-loop-wave : goal.invariant-loop-wave
invariant-loop-wave g l = record {
  after : IsAfter (with_items l.fn.items l.parts) l.objects l.groups.items l.wave;
  left : IsLeft (with_items l.fn.items l.parts) l.left.items l.wave;
  apt : g.M.WaveMaker.apt l.maker;
  holds : g.M.WaveMaker.stands l.fn.maker (plain_parts (with_items l.fn.items l.parts)) 0 → g.M.WaveMaker.holds l.fn.maker (plain_parts (with_items l.fn.items l.parts)) → g.M.WaveMaker.holds l.maker (plain_parts (with_items l.fn.items l.parts));
  stands : g.M.WaveMaker.stands l.fn.maker (plain_parts (with_items l.fn.items l.parts)) 0 → g.M.WaveMaker.stands l.maker (plain_parts (with_items l.fn.items l.parts)) l.wave;
}

abbrev pub decreases-loop-wave : goal.decreases-loop-wave
decreases-loop-wave g l = 5 - l.wave
