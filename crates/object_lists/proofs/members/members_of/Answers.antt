use Rattle.std.proofs.Common.{rules, ◌≡◌, ap, ◌∙◌}
use Rattle.std.specs.Arc.{arc_value}
use Rattle.site_base.specs.View.{items_view, view}
use Rattle.object_types.specs.declared.attribute.Attribute.TheVariants as attribute
use Rattle.object_types.specs.declared.object_type.ObjectType.TheVariants as object
use Rattle.object_values.specs.Values.{names_at, texts_of}
use Rattle.object_lists.proofs.MemberLaws.{user_step}
use Rattle.object_lists.proofs.members.members_of.Goals as goal

pub loop-place-preserved : goal.loop-place-preserved
loop-place-preserved c =
    let shared : c.deref.result.now ≡ arc_value c.index-users-place.result.now.tree = search rules in
    user_step c.loop-place.members c.add_all.new.self c.args.users.now c.loop-place.place c.index-users-place.result (texts_of (items_view c.names.result.now)) _
    c.loop-place-test.true c.index-users-place.is
    (c.names.ensures ∙ ap (λ t. names_at object.User attribute.Groups (view t)) shared)
    c.in_ok-add_all.ensures c.loop-place.invariant
