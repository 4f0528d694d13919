-- A hall may be shared by threads.
use denote.Param.Send.{sendable}
use Rattle.site_posts.proofs.Crossing.{hall_sync}
use Rattle.site_posts.proofs.hall.all_in.Goals as goal

pub all_at_once-requires-sync-W : goal.all_at_once-requires-sync-W
all_at_once-requires-sync-W g c κs within = search (sendable, hall_sync) depth 20
