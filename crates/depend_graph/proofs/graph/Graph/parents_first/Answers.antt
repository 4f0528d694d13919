use Rattle.std.proofs.Common.{◌≡◌, IsPermutation, length, sym, subst, ◌∙◌, rules}
use Rattle.std.proofs.lemmas.List.Sorted.{IsNonDecreasingBy-from_sort_by_key}
use Rattle.run_meaning.specs.Turns.{of_index}
use Rattle.run_meaning.specs.Reachability.{ancestors}
use Rattle.depend_graph.proofs.Sorting.{by_count}
use Rattle.depend_graph.proofs.graph.Graph.parents_first.Goals as goal

pub returns : goal.returns
returns c = λ s is.
    let k = c.args.checkable in
    let new = c.sort_unstable_by_key.new.self.items in
    by_count s c.args.self.now.ancestors k new is.ancestors
    (subst (λ xs. IsPermutation xs new) (c.in_ok-order.ensures.items ∙ c.ancestors.ensures s is) c.sort_unstable_by_key.ensures.permutation)
    (IsNonDecreasingBy-from_sort_by_key (λ p. length (of_index p c.args.self.now.ancestors)) _ c.sort_unstable_by_key.ensures.sorted (λ a r q k. search rules))
