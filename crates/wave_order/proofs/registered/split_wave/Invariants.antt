-- The items so far, and those that are left, are all.
use Rattle.std.proofs.Common.{◌≡◌, ◌++◌, map, not}
use Rattle.std.specs.List.{filter}
use Rattle.std.specs.Vec.Iter.{into_iter_items}
use Rattle.eval_work.specs.Works.{plain_item}
use Rattle.commit_meaning.specs.Waves.{is_in_wave}
use Rattle.wave_order.proofs.registered.split_wave.Given as goal

abbrev pub invariant-loop-item : goal.invariant-loop-item
invariant-loop-item l =
    (map plain_item l.split.of_wave.items ++ filter (λ i. is_in_wave l.wave i.kind) (map plain_item (into_iter_items l.item-iterator))
    ≡ filter (λ i. is_in_wave l.wave i.kind) (map plain_item l.fn.items.items))
    × (map plain_item l.split.others.items ++ filter (λ i. not (is_in_wave l.wave i.kind)) (map plain_item (into_iter_items l.item-iterator))
    ≡ filter (λ i. not (is_in_wave l.wave i.kind)) (map plain_item l.fn.items.items))
