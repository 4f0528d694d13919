use Rattle.std.proofs.Common.{rules, ◌∙◌}
use Rattle.std.proofs.lemmas.List.Sorted.{IsNonDecreasingBy-from_sort_by_key, answers_always}
use Rattle.history_carry.proofs.Ascending.{only_ascending}
use Rattle.history_carry.proofs.entries.sights_in_order.Goals as goal

pub returns : goal.returns
returns c =
    c.from.ensures
    ∙ only_ascending (λ x. x.checkable) c.args.sights.items c.sort_by_key.new.self.items
    (IsNonDecreasingBy-from_sort_by_key (λ x. x.checkable) _ c.in_ok-sort_by_key.ensures.sorted (λ a r q k. search rules))
    (c.sort_by_key.ensures.stable (λ x. x.checkable) (answers_always _ _ _ (λ f a r g h. search rules)))
