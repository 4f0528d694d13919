use Rattle.std.proofs.Common.{◌≡◌, map, drop}
use Rattle.object_lists.specs.Receivers.{with_new}
use Rattle.site_model.specs.PlainSite.{object_view}
use Rattle.site_load.specs.Idle.{source_of}
use Rattle.site_load.proofs.idle.add_sources.Given as goal

-- with those of the rest they are all
abbrev pub invariant-loop-object : goal.invariant-loop-object
invariant-loop-object l =
    with_new l.sources.keys (map source_of (map object_view (drop l.object-index l.objects))) ≡ with_new l.fn.sources.keys (map source_of (map object_view l.objects))
