use Rattle.run_laws.proofs.Idle.{idle_change_nothing}
use Rattle.run_laws.proofs.laws.idle_callers_change_no_round.Goals as goal

pub returns : goal.returns
returns c = idle_change_nothing
