use Rattle.std.proofs.Common.{sym, subst}
use Rattle.site_base.specs.View.{view as tree_view}
use Rattle.eval_work.specs.Works.{state_of, view_of, plain_item}
use Rattle.commit_meaning.specs.Answers.{answered}
use Rattle.item_start.specs.Answers.{Answers}
use Rattle.item_start.proofs.Answering.{gives_answers}
use Rattle.item_body.specs.Bodies.{body_left}
use Rattle.item_body.proofs.body.object_tree.Goals as goal

pub returns : goal.returns
returns c = λ ns b.
    let n = c.args.item.now.number in
    subst (λ o. Answers tree_view n c.run_body.result (answered n o)) (sym (c.in_ok-work.ensures.left ns b))
    (gives_answers tree_view n c.run_body.result (state_of c.run_body.new.work) (body_left (view_of c.args.view.now) (plain_item c.args.item.now) c.in_ok-work.work.this (state_of c.in_ok-work.work)) c.run_body.ensures)
