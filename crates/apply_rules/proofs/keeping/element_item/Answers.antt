use Rattle.std.proofs.Common.{◌≡◌, [], ◌++◌, List, Option, map, sym, ap, ◌∙◌, subst}
use Rattle.eval_meaning.specs.Registered.{PlainItem}
use Rattle.eval_meaning.specs.States.{gives, ◌>>=◌}
use Rattle.eval_work.specs.Works.{state_of, view_of, plain_pair, plain_rule, Gives}
use Rattle.apply_rules.specs.declared.instance.Instance.{Instance}
use Rattle.commit_meaning.specs.Names.{target_names}
use Rattle.commit_meaning.specs.Rules.{element_judged, element_run}
use Rattle.commit_meaning.specs.Starts.{trees_at}
use Rattle.rule_expressions.specs.Framed.{in_rule_with}
use Rattle.rule_expressions.specs.Plain.{plain_element}
use Rattle.apply_rules.specs.Judging.{judged_element}
use Rattle.apply_rules.specs.Plain.{plain_target, plain_kept}
use Rattle.apply_rules.proofs.Running.{element_is}
use Rattle.apply_rules.proofs.keeping.element_item.Goals as goal

pub returns-clause-gives : goal.returns-clause-gives
returns-clause-gives c =
    let v = view_of c.args.view.now in
    let r = plain_rule c.args.rule.now in
    let t = plain_target c.args.target.now in
    let e = plain_element c.args.element.now in
    let k = c.args.number in
    let s = state_of c.args.work.now in
    let us = map plain_pair c.in_ok-own.own.items in
    let trees : trees_at r.place e.bound [] s ≡ gives us s = ap (λ ps. trees_at r.place ps [] s) (sym c.deref.ensures.value) ∙ c.in_ok-own.ensures in
    let frame : state_of c.enter_with.new.work ≡ in_rule_with r.captured (target_names t ++ us) s = c.in_ok-enter_with.ensures.state
    ∙ (ap (λ ns. in_rule_with r.captured (ns ++ map plain_pair c.deref-2.result.now) s) c.requires.subject
    ∙ ap (λ xs. in_rule_with r.captured (target_names t ++ map plain_pair xs) s) c.deref-2.ensures.value) in
    let run : element_run v r t k e s ≡ judged_element v r t k e.key (target_names t ++ us) (state_of c.enter_with.new.work) =
    ap (λ o. o >>= λ own s1. element_judged v r t k e (target_names t ++ own) s1) trees
    ∙ (element_is v r t k e (target_names t ++ us) s ∙ ap (judged_element v r t k e.key (target_names t ++ us)) (sym frame)) in
    subst (Gives {X = Option Instance} {Y = List PlainItem} plain_kept c.judged_item.result (state_of c.judged_item.new.work)) (sym run) c.judged_item.ensures.gives
