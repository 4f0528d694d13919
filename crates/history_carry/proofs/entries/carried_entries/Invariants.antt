-- The entries that were carried so far, and those that are left.
use Rattle.std.proofs.Common.{◌≡◌, ◌++◌, map}
use Rattle.std.specs.Vec.Iter.{into_iter_items}
use Rattle.history_carry.specs.Entries.{carried_entry}
use Rattle.history_carry.proofs.entries.carried_entries.Given as goal

abbrev pub invariant-loop-entry : goal.invariant-loop-entry
invariant-loop-entry l = l.carried.items ++ map (carried_entry l.moves) (into_iter_items l.entry-iterator) ≡ map (carried_entry l.moves) l.fn.entries
