-- The sights that were carried so far.
use Rattle.std.proofs.Common.{◌≡◌, take}
use Rattle.std.specs.List.{filter_map}
use Rattle.history_carry.specs.Entries.{carried_sight}
use Rattle.history_carry.proofs.entries.carried_sights.Given as goal

abbrev pub invariant-loop-sight : goal.invariant-loop-sight
invariant-loop-sight l = l.carried.items ≡ filter_map (carried_sight l.moves) (take l.sight-index l.sights)
