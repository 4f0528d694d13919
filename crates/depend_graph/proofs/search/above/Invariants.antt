-- All that is found stands above the checkable, and the parents of those that were looked at are found.
use Rattle.std.proofs.Common.{◌≡◌, ◌≤◌, ◌<◌, ◌-◌, ℕ, All, length, get_or, true}
use Rattle.site_model.specs.PlainSite.{PlainSite}
use Rattle.run_meaning.specs.Turns.{of_index}
use Rattle.depend_graph.specs.Parents.{AreParents, has, IsAbove}
use Rattle.depend_graph.specs.Search.{AreMarked}
use Rattle.depend_graph.proofs.search.above.Given as goal

abbrev pub invariant-loop-next : goal.invariant-loop-next
invariant-loop-next l = record {
  long : length l.marks.items ≡ length l.parents;
  marked : AreMarked l.mark l.found.items l.marks.items;
  most : All (λ m. m ≤ l.mark) l.marks.items;
  within : l.next ≤ length l.found.items;
  begun : (q : ℕ) → has q (of_index l.checkable l.parents) ≡ true → has q l.found.items ≡ true;
  closed : (k q : ℕ) → k < l.next → has q (of_index (get_or l.found.items k 0) l.parents) ≡ true → has q l.found.items ≡ true;
  above : (s : PlainSite) → AreParents s l.parents → All (λ p. IsAbove s l.checkable p) l.found.items;
}

abbrev pub decreases-loop-next : goal.decreases-loop-next
decreases-loop-next l = length l.parents - l.next
