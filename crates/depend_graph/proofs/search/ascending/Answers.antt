use Rattle.std.proofs.Common.{IsPermutation, sym, subst}
use Rattle.std.specs.List.Sorted.{IsNonDecreasingBy}
use Rattle.std.proofs.lemmas.List.Sorted.{IsNonDecreasingBy-from_sort}
use Rattle.depend_graph.proofs.Sorting.{distinct_rise}
use Rattle.depend_graph.proofs.search.ascending.Goals as goal

pub returns-clause-same : goal.returns-clause-same
returns-clause-same c =
    subst (λ xs. IsPermutation xs c.from.result) c.in_ok-sorted.ensures.items
    (subst (IsPermutation c.in_ok-sorted.sorted.items) (sym c.from.ensures) c.sort_unstable.ensures.permutation)

pub returns-clause-rising : goal.returns-clause-rising
returns-clause-rising c =
    distinct_rise c.args.numbers.now c.from.result c.requires
    (subst (λ xs. IsPermutation xs c.from.result) c.in_ok-sorted.ensures.items
    (subst (IsPermutation c.in_ok-sorted.sorted.items) (sym c.from.ensures) c.sort_unstable.ensures.permutation))
    (subst (IsNonDecreasingBy (λ x. x)) (sym c.from.ensures) (IsNonDecreasingBy-from_sort (λ x. x) _ c.sort_unstable.ensures.sorted))
