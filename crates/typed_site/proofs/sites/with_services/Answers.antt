use Rattle.std.proofs.Common.{◌++◌, map, ap, ◌∙◌, arith}
use Rattle.std.proofs.lemmas.List.{length-map, map-append}
use Rattle.site_model.specs.PlainSite.{check_view, object_view}
use Rattle.typed_site.specs.Checks.{check_name}
use Rattle.typed_site.proofs.SiteLaws.{checks_from, names_from, services_apart, services_few, services_from}
use Rattle.typed_site.proofs.sites.with_services.Goals as goal

pub add_names-requires-clause-new : goal.add_names-requires-clause-new
add_names-requires-clause-new c =
    services_apart (map object_view c.args.objects.now) c.args.hosts.names (map check_view c.deref-2.result.now) c.requires.names
    (ap (map check_view) c.deref-2.ensures.value
    ∙ services_from (map object_view c.args.objects.now) _ _ _ _ _ _ c.requires.command_names c.requires.period_names c.requires.names c.deref.ensures.value c.in_ok-listed.ensures.objects c.in_ok-services.ensures)

pub returns-clause-specs : goal.returns-clause-specs
returns-clause-specs c =
    ap (map check_view) (c.in_ok-append.ensures.items ∙ ap (λ xs. xs ++ c.in_ok-services.services.items) c.reserve_exact.ensures.items)
    ∙ map-append check_view c.args.hosts.specs.items c.in_ok-services.services.items
    ∙ checks_from (map object_view c.args.objects.now) (map check_view c.args.hosts.specs.items) (map check_view c.in_ok-services.services.items) c.requires.specs
    (services_from (map object_view c.args.objects.now) _ _ _ _ _ _ c.requires.command_names c.requires.period_names c.requires.names c.deref.ensures.value c.in_ok-listed.ensures.objects c.in_ok-services.ensures)

pub returns-clause-names : goal.returns-clause-names
returns-clause-names c =
    c.in_ok-add_names.ensures
    ∙ names_from (map object_view c.args.objects.now) c.args.hosts.names (map check_name (map check_view c.deref-2.result.now)) c.requires.names
    (ap (map check_name)
    (ap (map check_view) c.deref-2.ensures.value
    ∙ services_from (map object_view c.args.objects.now) _ _ _ _ _ _ c.requires.command_names c.requires.period_names c.requires.names c.deref.ensures.value c.in_ok-listed.ensures.objects c.in_ok-services.ensures))

pub add_names-requires-clause-few : goal.add_names-requires-clause-few
add_names-requires-clause-few c =
    let few =
    services_few (map object_view c.args.objects.now) c.args.hosts.names c.deref-2.result.now c.requires.names
    (ap (map check_view) c.deref-2.ensures.value
    ∙ services_from (map object_view c.args.objects.now) _ _ _ _ _ _ c.requires.command_names c.requires.period_names c.requires.names c.deref.ensures.value c.in_ok-listed.ensures.objects c.in_ok-services.ensures) in
    omega (arith, few, c.requires.few, length-map c.args.objects.now object_view)
