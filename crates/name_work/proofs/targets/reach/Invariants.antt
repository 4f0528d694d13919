use Rattle.std.proofs.Common.{◌≡◌, drop}
use Rattle.name_work.specs.Reaching.{reached}
use Rattle.eval_work.specs.Works.{state_of}
use Rattle.eval_work.specs.Kept.{IsKept}
use Rattle.name_work.proofs.targets.reach.Given as goal

abbrev pub invariant-loop-key : goal.invariant-loop-key
invariant-loop-key l = (reached l.place l.container (drop l.key-index l.keys) (state_of l.work) ≡ reached l.place l.fn.container l.keys (state_of l.fn.work)) × IsKept l.fn.work l.work l.container
