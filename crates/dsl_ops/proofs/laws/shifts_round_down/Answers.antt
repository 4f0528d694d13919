use Rattle.dsl_ops.proofs.Rounding.{rounds_down}
use Rattle.dsl_ops.proofs.laws.shifts_round_down.Goals as goal

pub returns : goal.returns
returns c = rounds_down
