-- Its machine may be shared among threads.
use denote.Param.Send.{sendable}
use Rattle.site_posts.proofs.Crossing.{machine_send, machine_sync}
use Rattle.site_posts.proofs.hall.HallWork.work.Goals as goal

pub walk-requires-send-M : goal.walk-requires-send-M
walk-requires-send-M g c κs within = search (sendable, machine_send) depth 20

pub walk-requires-sync-M : goal.walk-requires-sync-M
walk-requires-sync-M g c κs within = search (sendable, machine_sync) depth 20
