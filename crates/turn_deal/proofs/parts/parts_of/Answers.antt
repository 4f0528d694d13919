-- A site may be shared by threads.
use denote.Param.Send.{sendable}
use Rattle.std.proofs.Crossing.{crosses}
use Rattle.site_posts.proofs.Crossing.{site_sync}
use Rattle.turn_deal.proofs.parts.parts_of.Goals as goal

pub map_chunks-requires-sync-F : goal.map_chunks-requires-sync-F
map_chunks-requires-sync-F g c κs within = search (sendable, crosses, site_sync) depth 60
