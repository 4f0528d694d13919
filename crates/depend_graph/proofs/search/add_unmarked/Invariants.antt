-- What is found, with what the others add, is what all add.
use Rattle.std.proofs.Common.{◌≡◌, ◌≤◌, All, length, drop}
use Rattle.depend_graph.specs.Search.{added, AreMarked}
use Rattle.depend_graph.proofs.search.add_unmarked.Given as goal

abbrev pub invariant-loop-parent : goal.invariant-loop-parent
invariant-loop-parent l = record {
  rest : added l.found.items (drop l.parent-index l.parents) ≡ added l.initial.found.items l.parents;
  marked : AreMarked l.mark l.found.items l.marks.items;
  long : length l.marks.items ≡ length l.initial.marks.items;
  most : All (λ m. m ≤ l.mark) l.initial.marks.items → All (λ m. m ≤ l.mark) l.marks.items;
}
