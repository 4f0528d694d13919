use Rattle.std.proofs.Common.{true, false, cond, Some, None, sym, ap, ap₂, ◌∙◌}
use Rattle.site_base.specs.View.{view}
use Rattle.site_model.specs.Names.{place_of}
use Rattle.site_model.specs.PlainSite.{object_view}
use Rattle.object_types.specs.declared.attribute.Attribute.TheVariants as attribute
use Rattle.object_types.specs.declared.object_type.ObjectType.TheVariants as object
use Rattle.object_lists.specs.Listed.{both, place_at}
use Rattle.object_lists.proofs.ListedLaws.{is_taken}
use Rattle.typed_site.specs.Checks.{service_made}
use Rattle.typed_site.proofs.checks.service_spec.Goals as goal

pub returns-then-is_some : goal.returns-then-is_some
returns-then-is_some c =
    let o = object_view c.args.service.now in
    let hosts = c.args.hosts.now in
    let made = both (service_made c.args.known.periods.now o) (place_at hosts object.Service attribute.HostName o.tree) (place_at c.args.known.commands.now object.Service attribute.CheckCommand o.tree) in
    sym (ap (λ b. cond b None made)
    (is_taken o.name hosts c.find.result c.is_some.result true (c.find.ensures.value ∙ ap (λ n. place_of n hosts) c.as_str.ensures) c.is_some.ensures c.if-is_some.true))

pub returns-in_ok-check_spec-in-Some-place_in : goal.returns-in_ok-check_spec-in-Some-place_in
returns-in_ok-check_spec-in-Some-place_in c =
    let o = object_view c.args.service.now in
    let hosts = c.args.hosts.now in
    let commands = c.args.known.commands.now in
    let made = both (service_made c.args.known.periods.now o) (place_at hosts object.Service attribute.HostName o.tree) (place_at commands object.Service attribute.CheckCommand o.tree) in
    ap Some c.in_ok-check_spec-in-Some-place_in.ensures
    ∙ sym (ap (λ b. cond b None made)
    (is_taken o.name hosts c.find.result c.is_some.result false (c.find.ensures.value ∙ ap (λ n. place_of n hosts) c.as_str.ensures) c.is_some.ensures c.if-is_some.false)
    ∙ ap₂ (λ h k. both (service_made c.args.known.periods.now o) h k)
    (sym (c.in-Some.ensures ∙ ap₂ (λ t d. place_at hosts t attribute.HostName (view d)) c.attributes.ensures.kind c.attributes.ensures.tree))
    (sym (c.in-Some-place_in.ensures ∙ ap₂ (λ t d. place_at commands t attribute.CheckCommand (view d)) c.attributes-2.ensures.kind c.attributes-2.ensures.tree)))
