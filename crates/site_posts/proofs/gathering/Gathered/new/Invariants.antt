-- So many empty lists.
use Rattle.std.proofs.Common.{◌≡◌, ℕ, [], length}
use Rattle.run_meaning.specs.Turns.{of_index}
use Rattle.site_posts.proofs.gathering.Gathered.new.Given as goal

abbrev pub invariant-loop : goal.invariant-loop
invariant-loop l = (length l.rows.items ≡ l.counter) × ((p : ℕ) → of_index p l.rows.items ≡ [])
