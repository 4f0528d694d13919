-- What is told so far, with what the objects that are left name, is all.
use Rattle.std.proofs.Common.{◌≡◌, ◌++◌, map, drop}
use Rattle.site_model.specs.PlainSite.{object_view}
use Rattle.conf_check.specs.Keys.{in_keys}
use Rattle.conf_check.specs.References.{objects_faults}
use Rattle.conf_check.proofs.all_references.faults_of.Given as goal

abbrev pub invariant-loop-object : goal.invariant-loop-object
invariant-loop-object l =
    l.told ++ objects_faults (in_keys l.keys) (map object_view (drop l.object-index l.objects))
    ≡ objects_faults (in_keys l.keys) (map object_view l.objects)
