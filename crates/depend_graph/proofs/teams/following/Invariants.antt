-- What stands in a row, followed by those of the rest that its leader leads, is all of them.
use Rattle.std.proofs.Common.{◌≡◌, ℕ, ◌++◌, length, drop}
use Rattle.run_meaning.specs.Turns.{of_index}
use Rattle.depend_graph.specs.Teams.{following}
use Rattle.depend_graph.proofs.teams.following.Given as goal

abbrev pub invariant-loop-place : goal.invariant-loop-place
invariant-loop-place l = record {
  long : length l.rows ≡ length l.leaders;
  rows : (k : ℕ) → of_index k l.rows ++ following l.place k (drop l.place l.leaders) ≡ following 0 k l.leaders;
}
