use Rattle.std.proofs.Common.{◌≡◌, [], ◌++◌, sym, ap, ◌∙◌, subst}
use Rattle.eval_work.specs.Works.{state_of, view_of, plain_rule}
use Rattle.commit_meaning.specs.Answers.{answered}
use Rattle.commit_meaning.specs.Names.{target_names}
use Rattle.commit_meaning.specs.Rules.{rule_run, pair_number}
use Rattle.item_start.specs.Answers.{Answers}
use Rattle.item_start.proofs.Answering.{gives_answers}
use Rattle.apply_rules.specs.Judging.{judged_element}
use Rattle.apply_rules.specs.Plain.{plain_target, plain_items}
use Rattle.apply_rules.proofs.Running.{once_is}
use Rattle.apply_rules.proofs.evaluation.run_once.Goals as goal

pub returns-clause-answer : goal.returns-clause-answer
returns-clause-answer c =
    let v = view_of c.args.view.now in
    let r = plain_rule c.args.rule.now in
    let t = plain_target c.args.target.now.target in
    let n = pair_number r t in
    let s = state_of c.in_ok-work.work in
    let once : rule_run v r t ≡ judged_element v r t 0 [] (target_names t ++ []) s = once_is v r t c.requires.once ∙ ap (judged_element v r t 0 [] (target_names t ++ [])) (sym c.in_ok-work.ensures.state) in
    subst (λ o. Answers plain_items n c.one_item-items.result (answered n o)) (sym once)
    (gives_answers plain_items n c.one_item-items.result (state_of c.one_item-items.new.work) (judged_element v r t 0 [] (target_names t ++ []) s) c.one_item-items.ensures.gives)

pub returns-clause-shared : goal.returns-clause-shared
returns-clause-shared c = c.one_item-items.ensures.shared c.args.view.now.store.now
