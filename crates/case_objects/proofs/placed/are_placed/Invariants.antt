use Rattle.std.proofs.Common.{◌<◌, All, length, take}
use Rattle.site_model.specs.declared.object.Object.{Object}
use Rattle.case_objects.proofs.placed.are_placed.Given as goal

abbrev pub invariant-loop-object : goal.invariant-loop-object
invariant-loop-object l = All (λ (o : Object). o.place.file < length l.files) (take l.object-index l.objects)
