use Rattle.std.proofs.Common.{map, ap, ◌∙◌, arith}
use Rattle.std.proofs.lemmas.List.{length-map}
use Rattle.site_model.specs.PlainSite.{object_view}
use Rattle.object_types.specs.declared.object_type.ObjectType.TheVariants as object
use Rattle.object_lists.specs.Listed.{lent_view}
use Rattle.typed_site.proofs.SiteLaws.{depends_from, lent_few, memberships_are, notifies_from}
use Rattle.typed_site.proofs.sites.around_of.Goals as goal

pub returns-clause-notifies : goal.returns-clause-notifies
returns-clause-notifies c =
    notifies_from (map object_view c.args.objects.now) _ _ _ _ _ _ _ c.requires.periods c.requires.checkables c.in_ok-users.ensures.names
    (memberships_are (map object_view c.args.objects.now) (lent_view c.deref.result.now) (ap lent_view c.deref.ensures.value ∙ c.in_ok-users.ensures.objects))
    c.deref-3.ensures.value c.in_ok-notifies.ensures.objects (c.in_ok-notify_specs.ensures _ c.in_ok-groups.ensures)

pub returns-clause-depends : goal.returns-clause-depends
returns-clause-depends c = depends_from (map object_view c.args.objects.now) _ _ _ _ _ c.requires.periods c.requires.checkables c.deref-4.ensures.value c.in_ok-depends.ensures.objects c.in_ok-depend_specs.ensures

pub members_of-requires : goal.members_of-requires
members_of-requires c =
    let few = lent_few object.User (map object_view c.args.objects.now) c.deref.result.now (ap lent_view c.deref.ensures.value ∙ c.in_ok-users.ensures.objects) in
    omega (arith, few, c.requires.few, length-map c.args.objects.now object_view)
