use Rattle.eval_work.specs.Works.{plain_item}
use Rattle.item_body.proofs.item.run_item.Goals as goal

pub returns-clause-answer : goal.returns-clause-answer
returns-clause-answer c = c.run_bound.ensures.answer (plain_item c.args.item.now).names c.in_ok-bound.ensures.bound

pub returns-clause-stays : goal.returns-clause-stays
returns-clause-stays c = λ world part. c.run_bound.ensures.stays (plain_item c.args.item.now).names c.in_ok-bound.ensures.bound world part
