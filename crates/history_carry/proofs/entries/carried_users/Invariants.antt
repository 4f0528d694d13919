-- The users that were carried so far.
use Rattle.std.proofs.Common.{◌≡◌, take}
use Rattle.std.specs.List.{filter_map}
use Rattle.history_carry.specs.Moves.{moved}
use Rattle.history_carry.proofs.entries.carried_users.Given as goal

abbrev pub invariant-loop-user : goal.invariant-loop-user
invariant-loop-user l = l.carried.items ≡ filter_map (moved l.moves.users) (take l.user-index l.users)
