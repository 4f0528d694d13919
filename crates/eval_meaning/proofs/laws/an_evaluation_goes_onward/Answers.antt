use Rattle.eval_meaning.proofs.Onward.{value_onward, body_onward}
use Rattle.eval_meaning.proofs.laws.an_evaluation_goes_onward.Goals as goal

pub returns-clause-value : goal.returns-clause-value
returns-clause-value c = value_onward

pub returns-clause-body : goal.returns-clause-body
returns-clause-body c = body_onward
