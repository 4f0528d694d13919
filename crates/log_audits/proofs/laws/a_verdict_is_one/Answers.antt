-- The first block that goes wrong is one.
use Rattle.log_audits.proofs.OneVerdict.{one_verdict}
use Rattle.log_audits.proofs.laws.a_verdict_is_one.Goals as goal

pub returns : goal.returns
returns c = λ callers s log v w p q. one_verdict callers s log v w p q
