use Rattle.std.proofs.Common.{◌≡◌, map, take}
use Rattle.notify_rules.specs.Sent.{untold}
use Rattle.notify_rules.proofs.listeners.Listeners.untold.Given as goal

abbrev pub invariant-loop-user : goal.invariant-loop-user
invariant-loop-user l = l.items.items ≡ map untold (take l.user-index l.users)
