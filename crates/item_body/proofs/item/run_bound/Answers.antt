use Rattle.std.proofs.Common.{[], ◌∷◌, Ok, Err, refl, ap, subst}
use Rattle.site_base.specs.Data.{Data}
use Rattle.site_base.specs.View.{view as tree_view}
use Rattle.site_base.specs.declared.tree.Tree.{Tree}
use Rattle.eval_work.specs.Works.{view_of, plain_item}
use Rattle.commit_meaning.specs.Answers.{made, diagnosed, blocked, diag, answered}
use Rattle.commit_meaning.specs.Items.{item_run}
use Rattle.item_start.specs.Answers.{Answers}
use Rattle.item_body.specs.Bodies.{under_names}
use Rattle.item_body.specs.declared.item_answer.ItemAnswer.TheVariants.{Blocked, Diags}
use Rattle.item_body.proofs.Lasting.{checked_answers, checked_stays}
use Rattle.item_body.proofs.item.run_bound.Goals as goal

pub returns-in-Ok-clause-answer : goal.returns-in-Ok-clause-answer
returns-in-Ok-clause-answer c = λ ns b.
    checked_answers (view_of c.args.view.now) (plain_item c.args.item.now) ns (made (tree_view c.in-Ok.tree)) c.checked.result (c.in-Ok.ensures ns b) c.checked.ensures

pub returns-in-Ok-clause-stays : goal.returns-in-Ok-clause-stays
returns-in-Ok-clause-stays c = λ ns b world part.
    checked_stays (view_of c.args.view.now) (plain_item c.args.item.now) ns world (made (tree_view c.in-Ok.tree)) c.checked.result part (c.in-Ok.ensures ns b) c.checked.ensures

pub returns-in_ok-only-in-Err-Fault-clause-answer : goal.returns-in_ok-only-in-Err-Fault-clause-answer
returns-in_ok-only-in-Err-Fault-clause-answer c = λ ns b.
    let f = c.in-Err-Fault in
    let v = view_of c.args.view.now in
    let i = plain_item c.args.item.now in
    let told = subst (λ s. Answers {X = Tree} {Y = Data} tree_view i.number (Err s) (answered i.number (item_run v (under_names ns i)))) f.field-0-is (f.ensures ns b) in
    checked_answers v i ns (diagnosed (diag i.number f.place f.kind f.text ∷ [])) (Ok (Diags c.in_ok-only-in-Err-Fault.field-0)) told (ap diagnosed c.in_ok-only-in-Err-Fault.ensures)

pub returns-in_ok-only-in-Err-Fault-clause-stays : goal.returns-in_ok-only-in-Err-Fault-clause-stays
returns-in_ok-only-in-Err-Fault-clause-stays c = λ ns b world part.
    let f = c.in-Err-Fault in
    let v = view_of c.args.view.now in
    let i = plain_item c.args.item.now in
    let told = subst (λ s. Answers {X = Tree} {Y = Data} tree_view i.number (Err s) (answered i.number (item_run v (under_names ns i)))) f.field-0-is (f.ensures ns b) in
    checked_stays v i ns world (diagnosed (diag i.number f.place f.kind f.text ∷ [])) (Ok (Diags c.in_ok-only-in-Err-Fault.field-0)) part told (ap diagnosed c.in_ok-only-in-Err-Fault.ensures)

pub returns-in-Err-Blocked-clause-answer : goal.returns-in-Err-Blocked-clause-answer
returns-in-Err-Blocked-clause-answer c = λ ns b.
    let f = c.in-Err-Blocked in
    let v = view_of c.args.view.now in
    let i = plain_item c.args.item.now in
    let told = subst (λ s. Answers {X = Tree} {Y = Data} tree_view i.number (Err s) (answered i.number (item_run v (under_names ns i)))) f.field-0-is (f.ensures ns b) in
    checked_answers v i ns (blocked f.read) (Ok (Blocked f.read)) told refl
