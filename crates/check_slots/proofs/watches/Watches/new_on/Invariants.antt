-- Those so far are on the wheel.
use Rattle.std.proofs.Common.{◌≡◌}
use Rattle.check_slots.proofs.OnWheel.{placed}
use Rattle.check_slots.proofs.watches.Watches.new_on.Given as goal

abbrev pub invariant-loop-checkable : goal.invariant-loop-checkable
invariant-loop-checkable g l = l.wheel ≡ placed l.checkable l.count
