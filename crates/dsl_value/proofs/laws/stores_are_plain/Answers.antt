use Rattle.dsl_value.proofs.Plainly.{is_plainly}
use Rattle.dsl_value.proofs.laws.stores_are_plain.Goals as goal

pub returns : goal.returns
returns c = is_plainly
