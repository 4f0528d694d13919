-- Nothing is on the shelves so far.
use Rattle.std.proofs.Common.{◌≡◌, ◌≤◌, ◌-◌, ℕ, [], length}
use Rattle.round_check.specs.Kept.{shelf_at}
use Rattle.round_check.proofs.checking.empty_shelves.Given as goal

abbrev pub decreases-loop-alloc : goal.decreases-loop-alloc
decreases-loop-alloc l = l.many - length l.shelves.items

abbrev pub invariant-loop-alloc : goal.invariant-loop-alloc
invariant-loop-alloc l = (length l.shelves.items ≤ l.many) × ((k p : ℕ) → shelf_at l.shelves.items k p ≡ [])
