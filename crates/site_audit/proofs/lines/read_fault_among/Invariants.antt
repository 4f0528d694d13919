use Rattle.std.proofs.Common.{◌≡◌, drop}
use Rattle.event_text.specs.Faults.{fault_name}
use Rattle.log_text.specs.Fronts.{spelled_at}
use Rattle.site_audit.proofs.lines.read_fault_among.Given as goal

abbrev pub invariant-loop-fault : goal.invariant-loop-fault
invariant-loop-fault l = spelled_at fault_name (drop l.fault-index l.faults) l.bytes ≡ spelled_at fault_name l.faults l.bytes
