use Rattle.std.proofs.Common.{sym, ◌∙◌}
use Rattle.dsl_parts.proofs.Climbing.{one_level}
use Rattle.dsl_parts.proofs.operators.is_operator.Goals as goal

pub returns : goal.returns
returns c = rw c.operator_level.ensures (sym (one_level c.args.kind.now c.args.level c.requires))
