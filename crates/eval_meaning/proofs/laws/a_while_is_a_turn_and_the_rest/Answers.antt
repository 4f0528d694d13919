use Rattle.eval_meaning.proofs.Turning.{while_is}
use Rattle.eval_meaning.proofs.laws.a_while_is_a_turn_and_the_rest.Goals as goal

pub returns : goal.returns
returns c = while_is
