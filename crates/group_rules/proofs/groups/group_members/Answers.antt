use Rattle.std.proofs.Common.{[], ◌∷◌, Err, List, map, sym, ap, ◌∙◌, subst}
use Rattle.site_model.specs.PlainSite.{object_view}
use Rattle.eval_work.specs.Works.{view_of}
use Rattle.commit_meaning.specs.Answers.{diagnosed, diag, answered}
use Rattle.commit_meaning.specs.Groups as plain
use Rattle.commit_meaning.specs.Groups.{member_run, settled}
use Rattle.item_start.specs.Answers.{Answers}
use Rattle.group_rules.specs.Plain.{plain_group, plain_taken, group_answer}
use Rattle.group_rules.specs.declared.taking.Taken.{Taken}
use Rattle.group_rules.proofs.Lasting.{groups_last}
use Rattle.group_rules.proofs.groups.group_members.Goals as goal

pub returns-in-Ok-clause-stays : goal.returns-in-Ok-clause-stays
returns-in-Ok-clause-stays c = λ world part.
    groups_last (view_of c.args.view.now) world (map plain_group c.args.groups.now) (object_view c.args.member.now) (group_answer c.answer_of.result) part (ap settled c.in-Ok.ensures ∙ sym c.answer_of.ensures)

pub returns-in_ok-only-in-Err-Fault-clause-stays : goal.returns-in_ok-only-in-Err-Fault-clause-stays
returns-in_ok-only-in-Err-Fault-clause-stays c = λ world part.
    let v = view_of c.args.view.now in
    let o = object_view c.args.member.now in
    let gs = map plain_group c.args.groups.now in
    let f = c.in-Err-Fault in
    let told = subst (λ s. Answers {X = Taken} {Y = plain.Taken} plain_taken o.number (Err s) (answered o.number (member_run v gs o))) f.field-0-is f.ensures in
    groups_last v world gs o (diagnosed c.in_ok-only-in-Err-Fault.field-0) part (ap settled told ∙ sym (ap diagnosed c.in_ok-only-in-Err-Fault.ensures))
