-- The items so far, and those that are left, are all.
use Rattle.std.proofs.Common.{◌≡◌, ◌++◌, map}
use Rattle.std.specs.List.{filter}
use Rattle.std.specs.Vec.Iter.{into_iter_items}
use Rattle.eval_work.specs.Works.{plain_item}
use Rattle.commit_meaning.specs.Waves.{is_in_wave}
use Rattle.wave_order.specs.WaveItems.{as_registered, plain_pending}
use Rattle.wave_order.proofs.registered.add_registered.Given as goal

abbrev pub invariant-loop-item : goal.invariant-loop-item
invariant-loop-item l =
    (map plain_pending l.out.items ++ filter (λ i. is_in_wave l.wave i.kind) (map plain_item (into_iter_items l.item-iterator))
    ≡ map plain_pending l.fn.out.items ++ filter (λ i. is_in_wave l.wave i.kind) (map plain_item l.fn.items.items))
    × (l.out.items ++ map as_registered (filter (λ i. is_in_wave l.wave i.kind) (into_iter_items l.item-iterator))
    ≡ l.fn.out.items ++ map as_registered (filter (λ i. is_in_wave l.wave i.kind) l.fn.items.items))
