-- One object after another, until none is left.
use Rattle.std.proofs.Common.{◌≡◌, ◌<◌, ◌≤◌, List, length, get_or, map, take_all, sym, ap, ◌∙◌, subst}
use Rattle.std.specs.List.{flat_map}
use Rattle.site_model.specs.PlainSite.{object_view}
use Rattle.site_model.specs.declared.object.Object.{Object}
use Rattle.eval_work.specs.Works.{view_of}
use Rattle.wave_objects.specs.Applying.{AreWithin, HaveTaken}
use Rattle.wave_objects.specs.AtTargets.{PlacedNamed, answers_of_one, plain_placed}
use Rattle.wave_objects.specs.ByType.{rules_going_to, type_rules}
use Rattle.wave_objects.proofs.ApplyLaws.{new_shared, next_taken, taken_applied, within_one}
use Rattle.wave_objects.proofs.TakeLaws.{as_many, rules_stay, taken_none}
use Rattle.wave_objects.proofs.TypeLaws.{named_of_type}
use Rattle.wave_objects.proofs.applying.apply_to_all.Goals as goal

pub loop-object-init : goal.loop-object-init
loop-object-init c = record {
  taken = taken_none 0 c.args.rules.now.items;
  shared = new_shared c.args.view.now.store.now c.args.rules.now.items c.requires.new;
}

pub answers_at_object-requires-clause-named : goal.answers_at_object-requires-clause-named
answers_at_object-requires-clause-named c = λ kind.
    let rules = c.args.rules.now.items in
    subst (PlacedNamed c.args.view.now.store.now)
    (sym (ap (type_rules kind) c.deref-in-loop-object.ensures.value ∙ (c.in_ok-types.ensures kind ∙ ap (rules_going_to kind 0) c.deref.ensures.value))) (named_of_type c.args.view.now.store.now kind 0 rules c.requires.named)

pub take_answers-requires : goal.take_answers-requires
take_answers-requires c =
    let rules = c.args.rules.now.items in
    let answers = map plain_placed c.in_ok-answers.answers.items in
    let within = within_one (view_of c.args.view.now) (map object_view c.args.objects.now) c.deref-in-loop-object.result.now rules
    (λ kind. ap (type_rules kind) c.deref-in-loop-object.ensures.value ∙ (c.in_ok-types.ensures kind ∙ ap (rules_going_to kind 0) c.deref.ensures.value)) (object_view c.object-item.result) in
    subst (λ n. AreWithin n answers) (sym (as_many 0 _ rules c.loop-object.rules.items c.loop-object.invariant.taken)) (subst (AreWithin (length rules)) (sym c.in_ok-answers.ensures.answers) within)

pub loop-object-preserved : goal.loop-object-preserved
loop-object-preserved c =
    let os = c.args.objects.now in
    let i = c.loop-object.object-index in
    let o = c.object-item.result in
    let so_far = c.loop-object.invariant in
    let within : i < length os = subst (λ (xs : List Object). i < length xs) c.as_slice-object-items.ensures c.loop-object-test.true in
    let here : o ≡ get_or os i o = c.object-item.is ∙ ap (λ (xs : List Object). get_or xs i o) c.as_slice-object-items.ensures in
    record {
      taken = next_taken (view_of c.args.view.now) (map object_view os) c.in_ok-types.types.items os i o (map plain_placed c.in_ok-answers.answers.items) c.args.rules.now.items c.loop-object.rules.items c.take_answers.new.rules.items
          within here (c.in_ok-answers.ensures.answers ∙ ap (λ ts. answers_of_one (view_of c.args.view.now) (map object_view os) ts (object_view o)) c.deref-in-loop-object.ensures.value) so_far.taken c.in_ok-take_answers.ensures.taken;
      shared = c.in_ok-take_answers.ensures.shared c.args.view.now.store.now so_far.shared c.in_ok-answers.ensures.shared;
    }

pub returns-clause-rules : goal.returns-clause-rules
returns-clause-rules c = rules_stay 0 _ c.args.rules.now.items c.loop-object.rules.items c.loop-object.invariant.taken

pub returns-clause-applied : goal.returns-clause-applied
returns-clause-applied c =
    let v = view_of c.args.view.now in
    let os = c.args.objects.now in
    let types = c.in_ok-types.types.items in
    let rules = c.args.rules.now.items in
    let then = c.loop-object.rules.items in
    let past : length os ≤ c.loop-object.object-index = rw (← c.as_slice-object-items.ensures) c.loop-object-test.false in
    taken_applied v (map object_view os) types rules (λ kind. c.in_ok-types.ensures kind ∙ ap (rules_going_to kind 0) c.deref.ensures.value) then
    (subst (λ (xs : List Object). HaveTaken 0 (flat_map (answers_of_one v (map object_view os) types) (map object_view xs)) rules then) (take_all c.loop-object.object-index os past) c.loop-object.invariant.taken)
    c.requires.new
