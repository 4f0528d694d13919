-- The object is a target or none, and the rules of its type are those that go to it.
use Rattle.std.proofs.Common.{◌≡◌, [], List, IfOk, map, sym, ap, ◌∙◌, subst}
use Rattle.site_model.specs.PlainSite.{object_view}
use Rattle.eval_work.specs.Works.{view_of}
use Rattle.apply_rules.specs.Plain.{plain_target}
use Rattle.wave_objects.specs.AtTargets.{Placed, PlacedNamed, placed_answers, plain_placed}
use Rattle.wave_objects.specs.ByType.{type_rules}
use Rattle.std.specs.List.{flat_map}
use Rattle.wave_objects.proofs.ApplyLaws.{at_one_target, none_of_type}
use Rattle.wave_objects.proofs.JoinLaws.{empty}
use Rattle.wave_objects.proofs.at_targets.answers_at_object.Goals as goal

pub returns-then-is_empty-clause-answers : goal.returns-then-is_empty-clause-answers
returns-then-is_empty-clause-answers c =
    let types = c.args.types.now in
    let nobody : c.rules_to-rules.result.now ≡ [] = empty c.rules_to-rules.result.now (sym c.is_empty.ensures ∙ c.if-is_empty.true) in
    let none : type_rules c.args.object.now.kind types ≡ [] = ap (λ k. type_rules k types) (sym c.as_str.ensures) ∙ (sym c.rules_to-rules.ensures ∙ nobody) in
    ap (map plain_placed) c.new.ensures.items ∙ sym (none_of_type (view_of c.args.view.now) (map object_view c.args.objects.now) types (object_view c.args.object.now) none)

pub answers_at_target-requires-clause-named : goal.answers_at_target-requires-clause-named
answers_at_target-requires-clause-named c = subst (PlacedNamed c.args.view.now.store.now) (sym c.rules_to-rules.ensures) (c.requires.named c.as_str.result.now)

pub returns-in-Some-clause-answers : goal.returns-in-Some-clause-answers
returns-in-Some-clause-answers c =
    let v = view_of c.args.view.now in
    let types = c.args.types.now in
    let is = c.rules_to-rules.ensures ∙ ap (λ k. type_rules k types) c.as_str.ensures in
    let same = at_one_target v (map object_view c.args.objects.now) types (object_view c.args.object.now) c.rules_to-rules.result.now (plain_target c.in-Some.target) is c.in-Some.ensures in
    subst (λ (xs : List Placed). IfOk c.answers_at_target.result (λ answers. map plain_placed answers.items ≡ xs)) same c.answers_at_target.ensures.answers

pub returns-in-None-clause-answers : goal.returns-in-None-clause-answers
returns-in-None-clause-answers c =
    ap (map plain_placed) c.new-in-None.ensures.items ∙ ap (flat_map (placed_answers (view_of c.args.view.now) (type_rules c.args.object.now.kind c.args.types.now))) c.in-None.ensures
