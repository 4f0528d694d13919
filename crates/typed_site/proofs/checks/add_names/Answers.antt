use Rattle.std.proofs.Common.{◌++◌, map, drop, length, arith, length-append}
use Rattle.std.proofs.lemmas.List.{length-map}
use Rattle.site_model.specs.PlainSite.{check_view}
use Rattle.typed_site.specs.Checks.{check_name}
use Rattle.typed_site.proofs.NameSteps.{name_room, name_step}
use Rattle.typed_site.proofs.checks.add_names.Goals as goal

pub loop-spec-preserved : goal.loop-spec-preserved
loop-spec-preserved c =
    name_step c.args.specs.now c.loop-spec.spec-index c.spec-item.result c.loop-spec.names c.add_name.new.names (c.args.names.now ++ map check_name (map check_view c.args.specs.now))
    c.loop-spec-test.true c.spec-item.is c.requires.new c.in_ok-add_name.ensures c.loop-spec.invariant

pub add_name-requires : goal.add_name-requires
add_name-requires c =
    let room = name_room c.loop-spec.names c.args.names.now c.args.specs.now (map check_name (map check_view (drop c.loop-spec.spec-index c.args.specs.now))) c.loop-spec.invariant in
    omega (arith, room, c.requires.few)
