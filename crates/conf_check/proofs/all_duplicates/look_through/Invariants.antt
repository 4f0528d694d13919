use Rattle.std.proofs.Common.{map, take, drop}
use Rattle.site_model.specs.PlainSite.{object_view}
use Rattle.conf_check.proofs.FirstLaws.{IsSoFar}
use Rattle.conf_check.proofs.all_duplicates.look_through.Given as goal

abbrev pub invariant-loop-object : goal.invariant-loop-object
invariant-loop-object l =
    IsSoFar l.files (map object_view (take l.object-index l.objects)) (map object_view (drop l.object-index l.objects)) (map object_view l.objects) l.faults l.firsts.keys l.firsts.places.items
