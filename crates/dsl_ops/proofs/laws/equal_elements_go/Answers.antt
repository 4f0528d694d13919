use Rattle.dsl_ops.proofs.Differences.{differs}
use Rattle.dsl_ops.proofs.laws.equal_elements_go.Goals as goal

pub returns : goal.returns
returns c = differs
