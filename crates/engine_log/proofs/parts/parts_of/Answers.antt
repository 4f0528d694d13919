-- A site may be shared by threads, and the entries of a part are entries of the whole.
use denote.Param.Send.{sendable}
use Rattle.std.proofs.Common.{◌+◌, All, sym, subst, arith}
use Rattle.std.proofs.Crossing.{crosses}
use Rattle.site_model.specs.PlainSite.{site_view}
use Rattle.site_posts.specs.declared.segment.Segment.{Segment}
use Rattle.site_text.specs.Entries.{IsPrintable}
use Rattle.site_posts.proofs.Crossing.{site_sync}
use Rattle.engine_log.proofs.parts.parts_of.Goals as goal

pub map_chunks-requires-sync-F : goal.map_chunks-requires-sync-F
map_chunks-requires-sync-F g c κs within = search (sendable, crosses, site_sync) depth 60

pub map_chunks-requires-clause-accepts : goal.map_chunks-requires-clause-accepts
map_chunks-requires-clause-accepts g c κs within = λ start p chunk k d h.
    subst (λ (x : Segment). All (IsPrintable (site_view c.args.site.now) x.checkable) x.entries) (sym (chunk.elements k d h)) (c.requires.printable (start + k) d (omega (arith, chunk.in_bounds, h)))
