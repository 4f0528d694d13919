-- The leaders so far, followed by those of the rest, are all.
use Rattle.std.proofs.Common.{◌≡◌, ◌++◌, drop, take}
use Rattle.depend_graph.specs.Teams.{AreFirsts, all_leaders, leaders_behind}
use Rattle.depend_graph.proofs.teams.leaders_in.Given as goal

abbrev pub invariant-loop-place : goal.invariant-loop-place
invariant-loop-place l = record {
  rest : l.leaders.items ++ leaders_behind (take l.place l.depends) (drop l.place l.depends) ≡ all_leaders l.depends;
  firsts : AreFirsts l.firsts (λ r. r.now) (take l.place l.depends);
}
