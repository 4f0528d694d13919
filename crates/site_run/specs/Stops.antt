-- Why a run stops within a turn, and with what it ends then.
use Rattle.site_edge.specs.declared.sink_fault.SinkFault.{SinkFault}
use Rattle.site_edge.specs.declared.sink_fault.SinkFault.TheVariants as sink
use Rattle.site_edge.specs.declared.world_error.WorldError.{WorldError}
use Rattle.site_edge.specs.declared.world_error.WorldError.TheVariants as world
use Rattle.site_run.specs.declared.status.Status.{Status}
use Rattle.site_run.specs.declared.status.Status.TheVariants as status
use Rattle.site_run.specs.declared.stop.Stop.{Stop}
use Rattle.site_run.specs.declared.stop.Stop.TheVariants as stop

abbrev pub stop_of_sink : SinkFault → Stop
stop_of_sink sink.Failed = stop.Sink
stop_of_sink sink.OutOfMemory = stop.OutOfMemory

abbrev pub stop_of_world : WorldError → Stop
stop_of_world world.Failed = stop.World
stop_of_world world.OutOfMemory = stop.OutOfMemory

abbrev pub status_of : Stop → Status
status_of stop.Sink = status.WriteFault
status_of stop.World = status.WorldFault
status_of stop.OutOfMemory = status.OutOfMemory
