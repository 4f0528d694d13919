use Rattle.std.proofs.Common.{◌++◌, map, ap, ◌∙◌, arith}
use Rattle.std.proofs.lemmas.List.{length-map}
use Rattle.site_model.specs.PlainSite.{check_view, object_view}
use Rattle.typed_site.specs.Checks.{check_name}
use Rattle.typed_site.proofs.SiteLaws.{hosts_apart, hosts_few, hosts_from}
use Rattle.typed_site.proofs.sites.hosts_of.Goals as goal

pub add_names-requires-clause-new : goal.add_names-requires-clause-new
add_names-requires-clause-new c =
    hosts_apart (map object_view c.args.objects.now) c.new-names.result (map check_view c.deref-2.result.now) c.new-names.ensures
    (ap (map check_view) c.deref-2.ensures.value
    ∙ hosts_from (map object_view c.args.objects.now) _ _ _ _ _ c.requires.command_names c.requires.period_names c.deref.ensures.value c.in_ok-listed.ensures.objects c.in_ok-specs.ensures)

pub returns-clause-specs : goal.returns-clause-specs
returns-clause-specs c = hosts_from (map object_view c.args.objects.now) _ _ _ _ _ c.requires.command_names c.requires.period_names c.deref.ensures.value c.in_ok-listed.ensures.objects c.in_ok-specs.ensures

pub returns-clause-names : goal.returns-clause-names
returns-clause-names c =
    c.in_ok-add_names.ensures
    ∙ ap (λ ns. ns ++ map check_name (map check_view c.deref-2.result.now)) c.new-names.ensures
    ∙ ap (map check_name)
    (ap (map check_view) c.deref-2.ensures.value
    ∙ hosts_from (map object_view c.args.objects.now) _ _ _ _ _ c.requires.command_names c.requires.period_names c.deref.ensures.value c.in_ok-listed.ensures.objects c.in_ok-specs.ensures)

pub add_names-requires-clause-few : goal.add_names-requires-clause-few
add_names-requires-clause-few c =
    let few =
    hosts_few (map object_view c.args.objects.now) c.new-names.result c.deref-2.result.now c.new-names.ensures
    (ap (map check_view) c.deref-2.ensures.value
    ∙ hosts_from (map object_view c.args.objects.now) _ _ _ _ _ c.requires.command_names c.requires.period_names c.deref.ensures.value c.in_ok-listed.ensures.objects c.in_ok-specs.ensures) in
    omega (arith, few, c.requires.few, length-map c.args.objects.now object_view)
