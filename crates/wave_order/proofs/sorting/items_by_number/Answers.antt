-- What a sort by a key says, at the number of each item.
use Rattle.std.proofs.Common.{map, ap, rules, ◌∙◌}
use Rattle.std.proofs.lemmas.List.Elements.{All-from_recursion, recursion_from_All}
use Rattle.std.proofs.lemmas.List.Sorted.{All-permutation, answers_always}
use Rattle.commit_meaning.specs.Waves.{item_number}
use Rattle.wave_order.specs.WaveItems.{IsWaitingIn, plain_pending}
use Rattle.wave_order.proofs.OrderLaws.{sorted, map_by_number}
use Rattle.wave_order.proofs.sorting.items_by_number.Goals as goal

pub returns-clause-items : goal.returns-clause-items
returns-clause-items c =
    ap (map plain_pending)
    (sorted (λ w. item_number (plain_pending w)) _ _
    (c.in_ok-sort_by_key.ensures.sorted (λ w. item_number (plain_pending w)) (answers_always _ _ _ (λ f a r g h. search rules)))
    (c.sort_by_key.ensures.stable (λ w. item_number (plain_pending w)) (answers_always _ _ _ (λ f a r g h. search rules))))
    ∙ map_by_number plain_pending item_number c.args.items.items

pub returns-clause-shared : goal.returns-clause-shared
returns-clause-shared c = λ s h.
    let given = c.args.items.items in
    let sorted = c.sort_by_key.new.self.items in
    recursion_from_All (IsWaitingIn s) sorted (All-permutation (IsWaitingIn s) given sorted c.sort_by_key.ensures.permutation (All-from_recursion (IsWaitingIn s) given h))
