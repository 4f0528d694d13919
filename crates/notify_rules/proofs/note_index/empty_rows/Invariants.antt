-- So many rows, each empty.
use Rattle.std.proofs.Common.{◌≡◌, ℕ, [], length}
use Rattle.run_meaning.specs.Turns.{of_index}
use Rattle.notify_rules.proofs.note_index.empty_rows.Given as goal

abbrev pub invariant-loop-index : goal.invariant-loop-index
invariant-loop-index l = record {
  many : length l.rows.items ≡ l.index;
  empty : (k : ℕ) → of_index k l.rows.items ≡ [];
}
