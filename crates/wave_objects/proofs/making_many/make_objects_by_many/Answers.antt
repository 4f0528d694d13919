-- What is made of the answers is what is made of the items.
use Rattle.std.proofs.Common.{◌≡◌, ◌∙◌, List, IfOk, ap, map, subst}
use Rattle.std.specs.List.{flat_map}
use Rattle.site_base.specs.declared.diag.Diag.{Diag}
use Rattle.site_model.specs.PlainSite.{PlainObject, object_view}
use Rattle.eval_meaning.specs.Registered.{PlainItem}
use Rattle.eval_work.specs.Works.{view_of, plain_item}
use Rattle.commit_meaning.specs.Answers.{made_in, diags_in}
use Rattle.commit_meaning.specs.Items.{item_answer}
use Rattle.wave_order.specs.WaveItems.{plain_pending}
use Rattle.wave_objects.specs.Steps.{groups_among}
use Rattle.wave_objects.proofs.TaskLaws.{flat_mapped, groups_are}
use Rattle.wave_objects.proofs.making_many.make_objects_by_many.Goals as goal

pub returns-clause-objects : goal.returns-clause-objects
returns-clause-objects g c =
    let v = view_of c.args.view.now in
    let is = map plain_pending c.args.items.items in
    let same = ap (flat_map made_in) (c.in_ok-answers.ensures ∙ ap (λ ps. map (item_answer v) (map plain_pending ps)) c.deref.ensures.value) ∙ flat_mapped made_in (item_answer v) is in
    subst (λ (x : List PlainObject). IfOk c.made_of.result (λ o. map object_view o.objects.items ≡ x)) same c.made_of.ensures.objects

pub returns-clause-groups : goal.returns-clause-groups
returns-clause-groups g c =
    let v = view_of c.args.view.now in
    let is = map plain_pending c.args.items.items in
    let same = ap (λ answers. groups_among answers is) (c.in_ok-answers.ensures ∙ ap (λ ps. map (item_answer v) (map plain_pending ps)) c.deref.ensures.value) ∙ groups_are v is in
    subst (λ (x : List PlainItem). IfOk c.made_of.result (λ o. map plain_item o.groups.items ≡ x)) same c.made_of.ensures.groups

pub returns-clause-faults : goal.returns-clause-faults
returns-clause-faults g c =
    let v = view_of c.args.view.now in
    let is = map plain_pending c.args.items.items in
    let same = ap (flat_map diags_in) (c.in_ok-answers.ensures ∙ ap (λ ps. map (item_answer v) (map plain_pending ps)) c.deref.ensures.value) ∙ flat_mapped diags_in (item_answer v) is in
    subst (λ (x : List Diag). IfOk c.made_of.result (λ o. o.faults ≡ x)) same c.made_of.ensures.faults
