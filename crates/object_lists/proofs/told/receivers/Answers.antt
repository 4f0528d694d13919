use Rattle.std.proofs.Common.{[], ap, ◌∙◌, sym}
use Rattle.site_base.specs.View.{view}
use Rattle.object_types.specs.declared.attribute.Attribute.TheVariants as attribute
use Rattle.object_types.specs.declared.object_type.ObjectType.TheVariants as object
use Rattle.object_values.specs.Values.{names_at}
use Rattle.object_lists.specs.Receivers.{members_named, users_named, with_new}
use Rattle.object_lists.proofs.NewLaws.{new_append}
use Rattle.object_lists.proofs.told.receivers.Goals as goal

pub returns : goal.returns
returns c = λ ms are.
    let users = c.args.users.now in
    let named = names_at object.Notification attribute.Users (view c.args.tree.now) in
    let groups = names_at object.Notification attribute.UserGroups (view c.args.tree.now) in
    c.from.ensures
    ∙ c.in_ok-from_slice.ensures.items
    ∙ c.as_slice.ensures.keys
    ∙ c.in_ok-add_groups.ensures ms are
    ∙ ap (λ gs. with_new c.add_users.new.told.keys (members_named ms gs)) c.names-2.ensures
    ∙ ap (λ ks. with_new ks (members_named ms groups))
    (c.in_ok-add_users.ensures ∙ ap (λ ns. with_new c.nobody-told.result.keys (users_named users ns)) c.names.ensures ∙ ap (λ ks. with_new ks (users_named users named)) c.nobody-told.ensures)
    ∙ sym (new_append [] (users_named users named) (members_named ms groups))
