-- The target's names are prepared behind the cells with which each element begins.
use Rattle.std.proofs.Common.{◌≡◌, [], map, sym, ap, ◌∙◌, subst}
use Rattle.eval_meaning.specs.States.{gives}
use Rattle.eval_work.specs.Works.{state_of, view_of, plain_rule}
use Rattle.commit_meaning.specs.Rules.{elements_run}
use Rattle.rule_expressions.specs.Plain.{plain_element}
use Rattle.rule_expressions.specs.Preparations.{IsPrepared}
use Rattle.rule_expressions.specs.Seen.{names_of}
use Rattle.apply_rules.specs.Judging.{unframed}
use Rattle.apply_rules.specs.Plain.{plain_instance, plain_target}
use Rattle.apply_rules.proofs.Running.{empty}
use Rattle.apply_rules.proofs.evaluation.run_elements.Goals as goal

pub returns-then-is_empty-clause-gives : goal.returns-then-is_empty-clause-gives
returns-then-is_empty-clause-gives c =
    let s = state_of c.args.work.now in
    let none : c.args.elements.now ≡ [] = empty c.args.elements.now (sym c.is_empty.ensures ∙ c.if-is_empty.true) in
    ap (λ es. elements_run (view_of c.args.view.now) (plain_rule c.args.rule.now) (plain_target c.args.share.now.target) (unframed s) 1 (map plain_element es) [] s) none
    ∙ ap (λ is. gives (map plain_instance is) s) (sym c.new-items.ensures.items)

pub element_item-requires-clause-prepared : goal.element_item-requires-clause-prepared
element_item-requires-clause-prepared c =
    subst (λ s. IsPrepared s c.in_ok-prepared.prepared) (sym (ap (λ w. w.store) c.in_ok-begin_again.ensures.state)) c.in_ok-prepared.ensures.prepared

pub element_item-requires-clause-subject : goal.element_item-requires-clause-subject
element_item-requires-clause-subject c = ap names_of c.in_ok-prepared.ensures.subject ∙ c.subject_of.ensures
