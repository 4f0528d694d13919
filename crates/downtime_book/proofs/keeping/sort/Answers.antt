-- A sort puts the list in order, and each is told what comes first then.
use Rattle.std.proofs.Common.{List, IsPermutation, sym, subst, rules}
use Rattle.std.proofs.lemmas.List.Sorted.{IsPermutation-map, IsNonDecreasingBy-from_sort_by_key}
use Rattle.downtime_book.specs.declared.downtime.Downtime.{Downtime}
use Rattle.downtime_book.specs.declared.placed.Placed.{Placed}
use Rattle.downtime_book.specs.Downtime.{until}
use Rattle.downtime_book.specs.Contents.{IsInOrder}
use Rattle.downtime_book.specs.Firsts.{downtimes_of}
use Rattle.downtime_book.proofs.Order.{downtimes_in_order}
use Rattle.downtime_book.proofs.keeping.sort.Goals as goal

pub returns-clause-same : goal.returns-clause-same
returns-clause-same c =
    subst (λ (l : List Downtime). IsPermutation (downtimes_of c.args.placed.now) l) (sym c.tell.ensures.same) (IsPermutation-map (λ (p : Placed). p.downtime) _ _ c.sort_unstable_by_key.ensures.permutation)

pub returns-clause-ordered : goal.returns-clause-ordered
returns-clause-ordered c =
    subst IsInOrder (sym c.tell.ensures.same) (downtimes_in_order _ (IsNonDecreasingBy-from_sort_by_key (λ (p : Placed). until p.downtime) _ c.sort_unstable_by_key.ensures.sorted (λ a r q k. search rules)))
