use Rattle.std.proofs.Common.{◌≡◌, ◌+◌}
use Rattle.wheel_links.proofs.Trees.{IsDescent}
use Rattle.wheel_links.proofs.tree.leftmost.Given as goal

abbrev pub invariant-loop : goal.invariant-loop
invariant-loop g l = record {
  descent : IsDescent l.inner l.moments l.counter l.node l.least;
  cost : l.steps ≡ l.fn.steps + l.counter;
}
