use Rattle.eval_meaning.proofs.Open.{value_open, body_open}
use Rattle.eval_meaning.proofs.laws.a_world_blocks_nothing.Goals as goal

pub returns-clause-value : goal.returns-clause-value
returns-clause-value c = value_open

pub returns-clause-body : goal.returns-clause-body
returns-clause-body c = body_open
