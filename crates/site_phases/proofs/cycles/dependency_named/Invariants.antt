-- Which object has the name is still to be told by what is left.
use Rattle.std.proofs.Common.{◌≡◌, map, drop}
use Rattle.site_model.specs.PlainSite.{object_view}
use Rattle.object_types.specs.declared.object_type.ObjectType.TheVariants as object
use Rattle.conf_check.specs.Duplicates.{first_object}
use Rattle.site_phases.proofs.cycles.dependency_named.Given as goal

abbrev pub invariant-loop-object : goal.invariant-loop-object
invariant-loop-object l = first_object object.Dependency l.name (map object_view (drop l.object-index l.objects)) ≡ first_object object.Dependency l.name (map object_view l.objects)
