use Rattle.std.proofs.Common.{◌≡◌, take}
use Rattle.site_audit.specs.Order.{zeros}
use Rattle.site_audit.proofs.order.ready_of.Given as goal

-- those of the counts so far that are 0
abbrev pub invariant-loop-k : goal.invariant-loop-k
invariant-loop-k l = l.ready.keys ≡ zeros (take l.k l.waits)
