-- The keys of the objects so far, and those of what is left, are those of all.
use Rattle.std.proofs.Common.{◌≡◌, [], map, drop}
use Rattle.site_model.specs.PlainSite.{object_view}
use Rattle.conf_check.specs.Keys.{keys_from}
use Rattle.conf_check.proofs.keys.keys_of.Given as goal

abbrev pub invariant-loop-object : goal.invariant-loop-object
invariant-loop-object l = keys_from l.keys (map object_view (drop l.object-index l.objects)) ≡ keys_from [] (map object_view l.objects)
