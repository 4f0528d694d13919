use Rattle.eval_work.specs.Works.{plain_item}
use Rattle.item_body.proofs.body.begin_body.Goals as goal

pub returns-clause-left : goal.returns-clause-left
returns-clause-left c = c.begin_under.ensures.left (plain_item c.args.item.now).names c.in_ok-bound.ensures.bound
