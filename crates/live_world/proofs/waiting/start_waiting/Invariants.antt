use Rattle.std.proofs.Common.{◌≡◌, ◌++◌}
use Rattle.std.specs.Vec.Iter.{into_iter_items}
use Rattle.live_world.specs.Turns.{numbers}
use Rattle.live_world.proofs.waiting.start_waiting.Given as goal

-- those that were looked at and those that are left are all
abbrev pub invariant-loop-order : goal.invariant-loop-order
invariant-loop-order g l = numbers l.all.items ++ numbers (into_iter_items l.order-iterator) ≡ numbers l.fn.running.items
