use Rattle.std.proofs.Common.{◌≡◌, [], map, sym, ap, ◌∙◌}
use Rattle.std.proofs.lemmas.Result.{IfOk-weaker}
use Rattle.site_model.specs.PlainSite.{object_view}
use Rattle.object_types.specs.Names.{type_named}
use Rattle.eval_work.specs.Works.{view_of}
use Rattle.commit_meaning.specs.Groups.{group_members}
use Rattle.group_rules.specs.Plain.{group_answer, plain_group}
use Rattle.wave_objects.specs.Members.{IsMemberAnswer, list_for}
use Rattle.wave_objects.proofs.JoinLaws.{by_members, empty, no_names}
use Rattle.wave_objects.proofs.joining.answer_of_member.Goals as goal

pub returns-then-is_empty : goal.returns-then-is_empty
returns-then-is_empty c =
    let nobody : c.of-groups.result.now ≡ [] = empty c.of-groups.result.now (sym c.is_empty.ensures ∙ c.if-is_empty.true) in
    let none : list_for c.args.lists.now (type_named c.args.object.now.kind) ≡ [] = ap (λ k. list_for c.args.lists.now (type_named k)) (sym c.as_str.ensures) ∙ (sym c.of-groups.ensures ∙ nobody) in
    no_names (view_of c.args.view.now) c.args.lists.now (object_view c.args.object.now) c.new.result c.new.ensures none

pub returns : goal.returns
returns c =
    let v = view_of c.args.view.now in
    let lists = c.args.lists.now in
    let o = object_view c.args.object.now in
    let same = ap (λ gs. group_members v (map plain_group gs) o) c.of-groups.ensures ∙ ap (λ k. group_members v (map plain_group (list_for lists (type_named k))) o) c.as_str.ensures in
    IfOk-weaker c.group_members.result (λ a. group_answer a ≡ group_members v (map plain_group c.of-groups.result.now) o) (λ a. IsMemberAnswer v lists o (group_answer a))
    (λ a e. by_members v lists o (group_answer a) (e ∙ same)) c.group_members.ensures.answer
