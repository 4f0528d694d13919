use Rattle.std.proofs.Common.{◌≡◌, ◌++◌, map, take, drop}
use Rattle.notify_rules.specs.Sent.{forgotten}
use Rattle.notify_rules.proofs.listeners.Listeners.forget.Given as goal

abbrev pub invariant-loop-listener : goal.invariant-loop-listener
invariant-loop-listener l = l.listener-items ≡ map forgotten (take l.listener-index l.fn.self) ++ drop l.listener-index l.fn.self
