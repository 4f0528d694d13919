use Rattle.std.proofs.Common.{[], sym, ap, ◌∙◌, subst}
use Rattle.dsl_value.specs.PlainStores.{plain_store}
use Rattle.eval_meaning.specs.States.{rule}
use Rattle.eval_work.specs.Kept.{PairsNamed}
use Rattle.eval_work.proofs.Later.{pairs_later, told_later}
use Rattle.commit_meaning.specs.Names.{target_names}
use Rattle.commit_meaning.specs.Rules.{in_rule}
use Rattle.commit_meaning.specs.Starts.{fresh}
use Rattle.rule_expressions.proofs.Evaluating.{prepared_is}
use Rattle.apply_rules.specs.Plain.{plain_target}
use Rattle.apply_rules.proofs.Running.{begun_at, begun_named}
use Rattle.apply_rules.proofs.evaluation.begin_rule.Goals as goal

pub begin_expressions-requires-clause-told : goal.begin_expressions-requires-clause-told
begin_expressions-requires-clause-told c =
    let v = c.args.view.now in
    told_later v v.store.now c.args.target.now.prepared.store c.requires.target.names.later c.requires.view.told

pub begin_expressions-requires-clause-captured : goal.begin_expressions-requires-clause-captured
begin_expressions-requires-clause-captured c =
    let s = c.args.target.now.prepared.store in
    subst (PairsNamed s) (sym c.deref.ensures.value) (pairs_later c.args.view.now.store.now s c.args.rule.now.captured.items c.requires.target.names.later c.requires.captured)

pub returns-clause-state : goal.returns-clause-state
returns-clause-state c =
    let s = c.args.view.now.store.now in
    let p = c.args.target.now.prepared in
    let ns = target_names (plain_target c.args.target.now.target) in
    let ps = c.args.rule.now.captured.items in
    begun_at c.begin_expressions.result (in_rule c.deref.result.now p.bound.items (fresh (plain_store p.store) rule c.new.result.items)) _
    (ap (λ xs. in_rule xs p.bound.items (fresh (plain_store p.store) rule c.new.result.items)) c.deref.ensures.value
    ∙ (ap (λ rs. in_rule ps p.bound.items (fresh (plain_store p.store) rule rs)) c.new.ensures.items
    ∙ prepared_is s p ns ps [] c.requires.target.names c.requires.target.subject))
    c.begin_expressions.ensures.state

pub returns-clause-captured : goal.returns-clause-captured
returns-clause-captured c =
    let s = c.args.target.now.prepared.store in
    let ps = c.args.rule.now.captured.items in
    begun_named c.begin_expressions.result s ps (pairs_later c.args.view.now.store.now s ps c.requires.target.names.later c.requires.captured) c.begin_expressions.ensures.store
