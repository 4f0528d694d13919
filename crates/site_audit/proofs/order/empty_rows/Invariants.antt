use Rattle.std.proofs.Common.{◌≡◌, ℕ, [], length}
use Rattle.run_meaning.specs.Turns.{of_index}
use Rattle.site_audit.proofs.order.empty_rows.Given as goal

abbrev pub invariant-loop : goal.invariant-loop
invariant-loop l = (length l.rows.items ≡ l.counter) × ((k : ℕ) → of_index k l.rows.items ≡ [])
