use Rattle.eval_meaning.proofs.Following.{value_follows, body_follows}
use Rattle.eval_meaning.proofs.laws.a_view_gives_what_its_worlds_give.Goals as goal

pub returns-clause-value : goal.returns-clause-value
returns-clause-value c = value_follows

pub returns-clause-body : goal.returns-clause-body
returns-clause-body c = body_follows
