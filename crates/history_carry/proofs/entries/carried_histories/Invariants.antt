-- The histories that were carried so far, and those that are left.
use Rattle.std.proofs.Common.{◌≡◌, ◌++◌, map}
use Rattle.std.specs.Vec.Iter.{into_iter_items}
use Rattle.history_carry.specs.Entries.{carried_history}
use Rattle.history_carry.proofs.entries.carried_histories.Given as goal

abbrev pub invariant-loop-history : goal.invariant-loop-history
invariant-loop-history l = l.carried.items ++ map (carried_history l.moves) (into_iter_items l.history-iterator) ≡ map (carried_history l.moves) l.fn.histories.items
