-- What stands in a row, followed by the leaders of the rest, is all of them.
use Rattle.std.proofs.Common.{◌≡◌, ℕ, ◌++◌, length, drop}
use Rattle.run_meaning.specs.Turns.{of_index}
use Rattle.depend_graph.specs.Teams.{leading}
use Rattle.depend_graph.proofs.teams.leading.Given as goal

abbrev pub invariant-loop-place : goal.invariant-loop-place
invariant-loop-place l = record {
  long : length l.rows ≡ l.count;
  rows : (c : ℕ) → of_index c l.rows ++ leading l.place c (drop l.place l.depends) (drop l.place l.leaders) ≡ leading 0 c l.depends l.leaders;
}
