use Rattle.std.proofs.Common.{◌≡◌, ◌++◌, ℕ, drop, length}
use Rattle.run_meaning.specs.Turns.{of_index}
use Rattle.site_audit.specs.Order.{followers}
use Rattle.site_audit.proofs.order.rows_of.Given as goal

-- each row, with what the rest of the pairs adds to it, comes to what it has to
abbrev pub invariant-loop-pair : goal.invariant-loop-pair
invariant-loop-pair l =
    (length l.rows.items ≡ l.count) × ((k : ℕ) → of_index k l.rows.items ++ followers (drop l.pair-index l.pairs) k ≡ followers l.pairs k)
