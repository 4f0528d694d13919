use Rattle.std.proofs.Common.{◌≡◌}
use Rattle.live_world.proofs.live_world.LiveWorld.await_turn.Given as goal

abbrev pub invariant-loop : goal.invariant-loop
invariant-loop g l = (l.self.running ≡ l.fn.self.running) × (l.self.faults ≡ l.fn.self.faults)
