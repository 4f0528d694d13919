-- The parts of the wave are what the definition says of them.
use Rattle.std.proofs.Common.{◌≡◌, ◌<◌, ◌≤◌, ◌++◌, length, map, IfOk, arith, refl, ap, ◌∙◌, subst}
use Rattle.eval_work.specs.Works.{view_of, plain_item}
use Rattle.site_model.specs.PlainSite.{object_view}
use Rattle.commit_meaning.specs.Groups.{grown}
use Rattle.commit_meaning.specs.Waves.{most_items}
use Rattle.wave_objects.specs.Members.{members_at}
use Rattle.wave_objects.specs.Plain.{with_items}
use Rattle.commit_waves.proofs.NamedLaws.{lawful}
use Rattle.commit_waves.proofs.WaveRuns.{groups_known, items_named, limit_told, still_named, wave_told, world_then}
use Rattle.commit_waves.proofs.waves.make_wave_by_many.Goals as goal

pub gather_by_many-requires-clause-lawful : goal.gather_by_many-requires-clause-lawful
gather_by_many-requires-clause-lawful g c κs within = lawful (with_items c.args.items c.args.parts.now) c.requires.load c.view_before-view.result c.view_before-view.ensures.store c.view_before-view.ensures.templates

pub returns-then-len-gt-MOST_ITEMS-clause-diags : goal.returns-then-len-gt-MOST_ITEMS-clause-diags
returns-then-len-gt-MOST_ITEMS-clause-diags g c =
    let view = c.view_before-view.ensures in
    let items = c.in_ok-items.field-0.items.items in
    let more : most_items < length items = omega arith in
    subst (λ x. IfOk c.too_many.result (λ w. w.list ≡ x))
    (limit_told (with_items c.args.items c.args.parts.now) c.requires.load c.args.objects.now c.args.groups.now.items c.args.wave c.requires.named c.view_before-view.result view.view view.store items c.in_ok-items.ensures.items
    c.index.result.now more c.index.ensures)
    c.too_many.ensures

pub make_objects_by_many-requires-clause-lawful : goal.make_objects_by_many-requires-clause-lawful
make_objects_by_many-requires-clause-lawful g c κs within = lawful (with_items c.args.items c.args.parts.now) c.requires.load c.view_before-view.result c.view_before-view.ensures.store c.view_before-view.ensures.templates

pub make_objects_by_many-requires-clause-named : goal.make_objects_by_many-requires-clause-named
make_objects_by_many-requires-clause-named g c κs within =
    let view = c.view_before-view.ensures in
    items_named (with_items c.args.items c.args.parts.now) c.requires.load c.args.objects.now c.args.groups.now.items c.args.wave c.requires.named c.view_before-view.result view.view view.store c.in_ok-items.field-0.items.items
    c.in_ok-items.ensures.items

pub join_groups_by_many-requires-clause-lawful : goal.join_groups_by_many-requires-clause-lawful
join_groups_by_many-requires-clause-lawful g c κs within = lawful (with_items c.args.items c.args.parts.now) c.requires.load c.view_before-view.result c.view_before-view.ensures.store c.view_before-view.ensures.templates

pub join_groups_by_many-requires-clause-named : goal.join_groups_by_many-requires-clause-named
join_groups_by_many-requires-clause-named g c κs within =
    let view = c.view_before-view.ensures in
    groups_known (with_items c.args.items c.args.parts.now) c.requires.load c.args.objects.now c.args.groups.now.items c.args.wave c.requires.named c.view_before-view.result view.view view.store c.in_ok-items.field-0.items.items
    c.in_ok-items.ensures.items c.in_ok-made.made.objects.items c.in_ok-made.ensures.objects c.in_ok-made.made.groups.items c.in_ok-made.ensures.groups c.deref.result.now
    (ap (map plain_item) c.deref.ensures.value ∙ c.in_ok-add_groups.ensures)

pub returns-clause-diags : goal.returns-clause-diags
returns-clause-diags g c =
    let view = c.view_before-view.ensures in
    let items = c.in_ok-items.field-0.items.items in
    let few : length items ≤ most_items = omega arith in
    c.in_ok-diags_by_number.ensures
    ∙ wave_told (with_items c.args.items c.args.parts.now) c.requires.load c.args.objects.now c.args.groups.now.items c.args.wave c.requires.named c.view_before-view.result view.view view.store items
    c.in_ok-items.ensures.items c.in_ok-made.made.objects.items c.in_ok-made.ensures.objects c.in_ok-made.made.groups.items c.in_ok-made.ensures.groups c.deref.result.now
    (ap (map plain_item) c.deref.ensures.value ∙ c.in_ok-add_groups.ensures) c.in_ok-items.field-0.faults c.add_diags.new.out c.join_groups_by_many.new.faults few
    c.in_ok-items.ensures.faults (c.in_ok-add_diags.ensures ∙ ap (λ ds. c.in_ok-items.field-0.faults ++ ds) c.in_ok-made.ensures.faults) c.in_ok-joined.ensures.faults

pub returns-clause-world : goal.returns-clause-world
returns-clause-world g c = λ none.
    let view = c.view_before-view.ensures in
    world_then (with_items c.args.items c.args.parts.now) c.requires.load c.args.objects.now c.args.groups.now.items c.args.wave c.requires.named c.view_before-view.result view.view view.store c.in_ok-items.field-0.items.items
    c.in_ok-items.ensures.items c.in_ok-made.made.objects.items c.in_ok-made.ensures.objects c.in_ok-made.made.groups.items c.in_ok-made.ensures.groups c.add_groups.new.out.items c.in_ok-add_groups.ensures
    c.in_ok-joined.joined.items (c.args.objects.now ++ c.in_ok-joined.joined.items)
    (c.in_ok-joined.ensures.objects ∙ ap (λ gs. map (λ o. grown o (members_at (view_of c.view_before-view.result) (map plain_item gs) o)) (map object_view c.in_ok-made.made.objects.items)) c.deref.ensures.value)
    refl

pub returns-clause-named : goal.returns-clause-named
returns-clause-named g c = λ none.
    let view = c.view_before-view.ensures in
    still_named (with_items c.args.items c.args.parts.now) c.requires.load c.args.objects.now c.args.groups.now.items c.args.wave c.requires.named c.view_before-view.result view.view view.store c.in_ok-items.field-0.items.items
    c.in_ok-items.ensures.items c.in_ok-made.made.objects.items c.in_ok-made.ensures.objects c.in_ok-made.made.groups.items c.in_ok-made.ensures.groups c.add_groups.new.out.items c.in_ok-add_groups.ensures
