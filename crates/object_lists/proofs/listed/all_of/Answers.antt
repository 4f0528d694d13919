use Rattle.std.proofs.Common.{[], map, drop, arith}
use Rattle.site_model.specs.PlainSite.{object_view}
use Rattle.conf_check.specs.Keys.{of_type}
use Rattle.object_lists.specs.Listed.{firsts_behind, lent_view}
use Rattle.object_lists.proofs.ListedLaws.{names_few, one_more}
use Rattle.object_lists.proofs.listed.all_of.Goals as goal

pub loop-object-preserved : goal.loop-object-preserved
loop-object-preserved c =
    one_more c.args.kind c.args.objects.now c.loop-object.object-index c.object-item.result c.loop-object.list.names c.take.new.self.names
    (lent_view c.loop-object.list.objects.items) (lent_view c.take.new.self.objects.items) (firsts_behind [] (of_type c.args.kind (map object_view c.args.objects.now)))
    c.loop-object-test.true c.object-item.is c.in_ok-take.ensures.names c.in_ok-take.ensures.objects c.loop-object.invariant

pub take-requires : goal.take-requires
take-requires c =
    let few = names_few c.args.kind c.args.objects.now c.loop-object.list.names (lent_view c.loop-object.list.objects.items) (map object_view (drop c.loop-object.object-index c.args.objects.now)) c.loop-object.invariant in
    omega (arith, few, c.requires)
