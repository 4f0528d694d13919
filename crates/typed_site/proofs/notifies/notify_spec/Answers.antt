use Rattle.std.proofs.Common.{Some, sym, ap, ap₂, ◌∙◌}
use Rattle.std.specs.Option.{option_map}
use Rattle.site_base.specs.View.{view}
use Rattle.site_model.specs.PlainSite.{object_view}
use Rattle.object_types.specs.declared.attribute.Attribute.TheVariants as attribute
use Rattle.object_types.specs.declared.object_type.ObjectType.TheVariants as object
use Rattle.object_lists.specs.Receivers.{receivers}
use Rattle.typed_site.specs.Depends.{target_at}
use Rattle.typed_site.specs.Notifies.{notify_made}
use Rattle.typed_site.proofs.notifies.notify_spec.Goals as goal

pub returns-in_ok-telling-in-Some : goal.returns-in_ok-telling-in-Some
returns-in_ok-telling-in-Some c = λ ms are.
    let o = object_view c.args.notify.now in
    let periods = c.args.known.periods.now in
    let names = c.args.known.checkables.now in
    let users = c.args.known.users.now in
    ap Some (c.in_ok-telling-in-Some.ensures ∙ ap (λ us. notify_made periods o us c.in-Some.checkable) (c.in_ok-users-in-Some.ensures ms are))
    ∙ ap (λ t. Some (notify_made periods o (receivers users ms (view t)) c.in-Some.checkable)) c.deref.ensures
    ∙ sym (ap (option_map (notify_made periods o (receivers users ms o.tree)))
    (sym (c.in_ok-checkable.ensures ∙ ap₂ (λ t d. target_at names t attribute.HostName attribute.ServiceName (view d)) c.attributes-set.ensures.kind c.attributes-set.ensures.tree) ∙ c.in-Some.is))
