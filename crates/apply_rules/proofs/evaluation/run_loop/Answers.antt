use Rattle.std.proofs.Common.{◌≡◌, sym, ap, ◌∙◌, subst}
use Rattle.dsl_syntax.specs.SyntaxView.{each_view}
use Rattle.eval_work.specs.Works.{state_of, view_of, plain_rule}
use Rattle.commit_meaning.specs.Answers.{answered}
use Rattle.commit_meaning.specs.Rules.{rule_run, pair_number}
use Rattle.item_start.specs.Answers.{Answers}
use Rattle.item_start.proofs.Answering.{gives_answers}
use Rattle.apply_rules.specs.Judging.{looped_items}
use Rattle.apply_rules.specs.Plain.{plain_target, plain_items}
use Rattle.apply_rules.proofs.Running.{loop_is}
use Rattle.apply_rules.proofs.evaluation.run_loop.Goals as goal

pub returns-clause-answer : goal.returns-clause-answer
returns-clause-answer c =
    let v = view_of c.args.view.now in
    let r = plain_rule c.args.rule.now in
    let t = plain_target c.args.target.now.target in
    let x = each_view c.args.each.now in
    let n = pair_number r t in
    let s = state_of c.in_ok-work.work in
    let all : rule_run v r t ≡ looped_items v r x t s = loop_is v r t x c.requires.each ∙ ap (looped_items v r x t) (sym c.in_ok-work.ensures.state) in
    subst (λ o. Answers plain_items n c.loop_items-items.result (answered n o)) (sym all)
    (gives_answers plain_items n c.loop_items-items.result (state_of c.loop_items-items.new.work) (looped_items v r x t s) c.loop_items-items.ensures.gives)

pub returns-clause-shared : goal.returns-clause-shared
returns-clause-shared c = c.loop_items-items.ensures.shared c.args.view.now.store.now c.requires.applicable.target
