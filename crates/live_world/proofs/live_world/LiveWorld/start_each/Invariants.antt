use Rattle.std.proofs.Common.{◌≡◌, ◌++◌, take}
use Rattle.live_world.specs.Turns.{numbers, ordered}
use Rattle.live_world.proofs.live_world.LiveWorld.start_each.Given as goal

-- the first orders were started
abbrev pub invariant-loop-order : goal.invariant-loop-order
invariant-loop-order g l = (numbers l.self.running.items ≡ numbers l.fn.self.running.items ++ ordered (take l.order-index l.orders)) × (l.self.faults ≡ l.fn.self.faults)
