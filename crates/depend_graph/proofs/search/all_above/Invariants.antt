-- The lists so far are those of the ancestors, and no mark is greater than the last.
use Rattle.std.proofs.Common.{◌≡◌, ◌≤◌, ◌<◌, ℕ, All, AllPairs, length}
use Rattle.site_model.specs.PlainSite.{PlainSite}
use Rattle.run_meaning.specs.Turns.{of_index}
use Rattle.depend_graph.specs.Parents.{AreParents}
use Rattle.depend_graph.specs.Search.{AreAbove}
use Rattle.depend_graph.proofs.search.all_above.Given as goal

abbrev pub invariant-loop-checkable : goal.invariant-loop-checkable
invariant-loop-checkable l = record {
  many : length l.lists ≡ l.checkable;
  long : length l.marks.items ≡ length l.parents;
  most : All (λ m. m ≤ l.checkable) l.marks.items;
  above : (s : PlainSite) → AreParents s l.parents → (c : ℕ) → c < l.checkable → AreAbove s c (of_index c l.lists);
  rising : (c : ℕ) → AllPairs (λ j k. j < k) (of_index c l.lists);
}
