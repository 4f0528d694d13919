use Rattle.std.proofs.Common.{rules, ◌∙◌}
use Rattle.std.proofs.lemmas.List.Sorted.{IsNonDecreasingBy-from_sort_by_key, answers_always}
use Rattle.history_carry.proofs.Ascending.{only_ascending}
use Rattle.history_carry.proofs.entries.decisions_in_order.Goals as goal

pub returns : goal.returns
returns c =
    c.from.ensures
    ∙ only_ascending (λ d. d.notification) c.args.decisions.items c.sort_by_key.new.self.items
    (IsNonDecreasingBy-from_sort_by_key (λ d. d.notification) _ c.in_ok-sort_by_key.ensures.sorted (λ a r q k. search rules))
    (c.sort_by_key.ensures.stable (λ d. d.notification) (answers_always _ _ _ (λ f a r g h. search rules)))
