-- The places so far, and those below the one that comes next, are all.
use Rattle.std.proofs.Common.{◌≡◌, ℕ, ◌+◌, ◌≤◌, length, vec_capacity}
use Rattle.commit_board.specs.Places.{below, times}
use Rattle.commit_board.proofs.board.all_places.Given as goal

abbrev pub invariant-loop-left : goal.invariant-loop-left
invariant-loop-left l = ((k : ℕ) → times k l.places.items + below k l.left ≡ below k l.count) × (length l.places.items + l.left ≡ l.count) × (l.count ≤ vec_capacity l.places)

abbrev pub decreases-loop-left : goal.decreases-loop-left
decreases-loop-left l = l.left
