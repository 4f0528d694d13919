use Rattle.std.proofs.Common.{ap, ◌∙◌}
use Rattle.object_types.specs.Names.{type_named}
use Rattle.conf_check.proofs.FirstLaws.{one_more}
use Rattle.conf_check.proofs.all_duplicates.look_through.Goals as goal

pub loop-object-preserved : goal.loop-object-preserved
loop-object-preserved c =
    one_more c.args.files.now c.args.objects.now c.loop-object.object-index c.object-item.result c.of_name-kind.result c.loop-object.faults c.push_object.new.out
    c.loop-object.firsts.keys c.push_object.new.firsts.keys c.loop-object.firsts.places.items c.push_object.new.firsts.places.items
    c.loop-object-test.true c.object-item.is (c.of_name-kind.ensures.value ∙ ap type_named c.as_str.ensures) c.requires
    c.in_ok-push_object.ensures.told c.in_ok-push_object.ensures.keys c.in_ok-push_object.ensures.places c.loop-object.invariant
