use Rattle.std.proofs.Common.{◌≡◌, refl, sym, ap, ◌∙◌, subst}
use Rattle.dsl_syntax.specs.SyntaxView.{block_view}
use Rattle.dsl_value.specs.PlainStores.{plain_store}
use Rattle.eval_meaning.specs.States.{rule}
use Rattle.eval_work.specs.Kept.{PairsNamed}
use Rattle.eval_work.specs.Works.{state_of, view_of, plain_item, Gives}
use Rattle.eval_work.proofs.Later.{pairs_later, told_later}
use Rattle.commit_meaning.specs.Conditions as plain
use Rattle.commit_meaning.specs.Conditions.{no_verdict, judged}
use Rattle.commit_meaning.specs.Rules.{in_rule}
use Rattle.commit_meaning.specs.Starts.{fresh}
use Rattle.rule_expressions.specs.Framed.{in_rule_with}
use Rattle.rule_expressions.specs.Plain.{plain_verdict}
use Rattle.rule_expressions.specs.Seen.{names_of}
use Rattle.rule_expressions.specs.declared.conditions.Verdict.{Verdict}
use Rattle.rule_expressions.proofs.Evaluating.{prepared_is}
use Rattle.group_rules.specs.ReadsLeft.{GivesReads}
use Rattle.group_rules.proofs.Grouping.{group_is, reads_left}
use Rattle.group_rules.proofs.taking.judge_group.Goals as goal

pub begin_expressions-requires-clause-told : goal.begin_expressions-requires-clause-told
begin_expressions-requires-clause-told c =
    let v = c.args.view.now in
    told_later v v.store.now c.args.prepared.now.store c.requires.prepared.later c.requires.view.told

pub begin_expressions-requires-clause-captured : goal.begin_expressions-requires-clause-captured
begin_expressions-requires-clause-captured c =
    let s = c.args.prepared.now.store in
    subst (PairsNamed s) (sym c.deref.ensures.value) (pairs_later c.args.view.now.store.now s c.args.group.now.captured.items c.requires.prepared.later c.requires.captured)

pub returns : goal.returns
returns c =
    let v = view_of c.args.view.now in
    let g = plain_item c.args.group.now in
    let p = c.args.prepared.now in
    let ns = names_of p.subject in
    let rs = c.args.reads.now.items in
    let s0 = fresh (plain_store c.args.view.now.store.now) rule rs in
    let s1 = state_of c.in_ok-work.work in
    let at : s1 ≡ in_rule_with g.captured ns s0 =
    c.in_ok-work.ensures.state
    ∙ (ap (λ ps. in_rule ps p.bound.items (fresh (plain_store p.store) rule c.replace-before.result.items)) c.deref.ensures.value
    ∙ (ap (λ xs. in_rule g.captured p.bound.items (fresh (plain_store p.store) rule xs.items)) c.replace-before.ensures.value
    ∙ prepared_is c.args.view.now.store.now p ns g.captured rs c.requires.prepared refl)) in
    let gives = subst (λ b. Gives {X = Verdict} {Y = plain.Verdict} plain_verdict c.judge-verdict.result (state_of c.judge-verdict.new.work) (judged v (block_view b) no_verdict s1)) c.deref-2.ensures c.judge-verdict.ensures.gives in
    subst (GivesReads {X = Verdict} {Y = plain.Verdict} plain_verdict c.judge-verdict.result c.judge-verdict.new.work.reads.items) (sym (group_is v ns g s0 ∙ ap (judged v g.body no_verdict) (sym at)))
    (reads_left {X = Verdict} {Y = plain.Verdict} plain_verdict c.judge-verdict.result (state_of c.judge-verdict.new.work) (judged v g.body no_verdict s1) gives)
