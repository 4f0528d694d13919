use Rattle.std.proofs.Common.{rules}
use Rattle.std.proofs.lemmas.List.Sorted.{IsNonDecreasingBy-from_sort_by_key, answers_always}
use Rattle.down_recur.proofs.ByStart.{only_by_start}
use Rattle.down_recur.proofs.looking.by_start.Goals as goal

pub returns : goal.returns
returns c =
    only_by_start c.args.segments.items c.sort_by_key.new.self.items
    (IsNonDecreasingBy-from_sort_by_key (λ s. s.start) _ c.in_ok-sort_by_key.ensures.sorted (λ a r q k. search rules))
    (c.sort_by_key.ensures.stable (λ s. s.start) (answers_always _ _ _ (λ f a r g h. search rules)))
