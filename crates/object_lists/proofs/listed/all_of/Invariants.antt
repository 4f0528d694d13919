-- Those of the type so far, and those of what is left, are all.
use Rattle.std.proofs.Common.{[], map, drop}
use Rattle.site_model.specs.PlainSite.{object_view}
use Rattle.conf_check.specs.Keys.{of_type}
use Rattle.object_lists.specs.Listed.{firsts_behind, lent_view}
use Rattle.object_lists.proofs.ListedLaws.{IsListed}
use Rattle.object_lists.proofs.listed.all_of.Given as goal

abbrev pub invariant-loop-object : goal.invariant-loop-object
invariant-loop-object l =
    IsListed l.kind l.list.names (lent_view l.list.objects.items) (map object_view (drop l.object-index l.objects)) (firsts_behind [] (of_type l.kind (map object_view l.objects)))
