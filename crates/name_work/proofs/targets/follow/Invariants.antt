use Rattle.std.proofs.Common.{◌≡◌, drop}
use Rattle.eval_meaning.specs.Targets.{followed}
use Rattle.eval_work.specs.Works.{state_of}
use Rattle.eval_work.specs.Kept.{Named}
use Rattle.name_work.proofs.targets.follow.Given as goal

abbrev pub invariant-loop-key : goal.invariant-loop-key
invariant-loop-key l = (followed l.place l.value (drop l.key-index l.keys) (state_of l.work) ≡ followed l.place l.container l.keys (state_of l.work)) × Named l.work.store l.value
