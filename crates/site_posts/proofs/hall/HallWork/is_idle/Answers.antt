-- Its machine may be shared among threads.
use denote.Param.Send.{sendable}
use Rattle.site_posts.proofs.Crossing.{machine_send, machine_sync}
use Rattle.site_posts.proofs.hall.HallWork.is_idle.Goals as goal

pub is_idle-requires-send-M : goal.is_idle-requires-send-M
is_idle-requires-send-M c κs = search (sendable, machine_send) depth 20

pub is_idle-requires-sync-M : goal.is_idle-requires-sync-M
is_idle-requires-sync-M c κs = search (sendable, machine_sync) depth 20
