use Rattle.std.proofs.Common.{◌≡◌, false, Err, sym, ap, ◌∙◌, subst}
use Rattle.dsl_syntax.specs.SyntaxView.{block_view}
use Rattle.dsl_value.specs.PlainStores.{plain_store}
use Rattle.eval_meaning.specs.States.{gives, rule}
use Rattle.eval_work.specs.Works.{view_of, plain_item}
use Rattle.commit_meaning.specs.Conditions as plain
use Rattle.commit_meaning.specs.Conditions.{no_verdict}
use Rattle.commit_meaning.specs.Groups.{caught, group_run}
use Rattle.commit_meaning.specs.Starts.{fresh}
use Rattle.rule_expressions.specs.Plain.{plain_verdict}
use Rattle.rule_expressions.specs.Framed.{in_rule_with}
use Rattle.rule_expressions.specs.Seen.{names_of}
use Rattle.rule_expressions.specs.Conditional.{has_conditions}
use Rattle.rule_expressions.specs.declared.conditions.Verdict.{Verdict}
use Rattle.group_rules.specs.Plain.{plain_taken}
use Rattle.group_rules.specs.ReadsLeft.{GivesReads}
use Rattle.group_rules.proofs.Grouping.{group_is, judged_none, name_caught}
use Rattle.group_rules.proofs.taking.take_one.Goals as goal

pub returns-then-not-has_conditions : goal.returns-then-not-has_conditions
returns-then-not-has_conditions c =
    let v = view_of c.args.view.now in
    let g = plain_item c.args.group.now in
    let s0 = fresh (plain_store c.args.view.now.store.now) rule c.args.reads.now.items in
    let ns = names_of c.args.prepared.now.subject in
    let none : has_conditions g.body ≡ false = ap (λ b. has_conditions (block_view b)) (sym c.deref.ensures) ∙ (sym c.has_conditions.ensures ∙ c.if-not-has_conditions.true) in
    ap (caught v c.args.number g (plain_taken c.args.taken.now)) (group_is v ns g s0 ∙ judged_none v g.body no_verdict (in_rule_with g.captured ns s0) none)

pub returns-in_ok-add_name-in-Ok : goal.returns-in_ok-add_name-in-Ok
returns-in_ok-add_name-in-Ok c =
    let v = view_of c.args.view.now in
    let g = plain_item c.args.group.now in
    let o = group_run v (names_of c.args.prepared.now.subject) g (fresh (plain_store c.args.view.now.store.now) rule c.args.reads.now.items) in
    let h = c.in-Ok.ensures in
    name_caught v c.args.number g (plain_taken c.args.taken.now) (plain_taken c.add_name.new.taken) o (plain_verdict c.in-Ok.verdict) h.0 c.judge_group.new.reads.items h.1 h.2 c.in_ok-add_name-in-Ok.ensures

pub returns-in_ok-push-in-Err-Fault : goal.returns-in_ok-push-in-Err-Fault
returns-in_ok-push-in-Err-Fault c =
    let v = view_of c.args.view.now in
    let g = plain_item c.args.group.now in
    let t = plain_taken c.args.taken.now in
    let o = group_run v (names_of c.args.prepared.now.subject) g (fresh (plain_store c.args.view.now.store.now) rule c.args.reads.now.items) in
    let f = c.in-Err-Fault in
    let told = subst (λ s. GivesReads {X = Verdict} {Y = plain.Verdict} plain_verdict (Err s) c.judge_group.new.reads.items o) f.field-0-is f.ensures in
    ap (caught v c.args.number g t) told ∙ ap (λ ds. gives (record t { diags = ds }) (fresh v.store rule c.judge_group.new.reads.items)) (sym c.in_ok-push-in-Err-Fault.ensures.ok)

pub returns-in-Err-Blocked : goal.returns-in-Err-Blocked
returns-in-Err-Blocked c =
    let v = view_of c.args.view.now in
    let g = plain_item c.args.group.now in
    let o = group_run v (names_of c.args.prepared.now.subject) g (fresh (plain_store c.args.view.now.store.now) rule c.args.reads.now.items) in
    let f = c.in-Err-Blocked in
    let told = subst (λ s. GivesReads {X = Verdict} {Y = plain.Verdict} plain_verdict (Err s) c.judge_group.new.reads.items o) f.field-0-is f.ensures in
    ap (caught v c.args.number g (plain_taken c.args.taken.now)) told
