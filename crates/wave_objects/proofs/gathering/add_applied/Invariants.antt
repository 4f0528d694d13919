-- What was added, and what the rules that are left have made, is what all of them have made.
use Rattle.std.proofs.Common.{◌≡◌, ◌++◌, map}
use Rattle.std.specs.List.{flat_map}
use Rattle.std.specs.Vec.Iter.{into_iter_items}
use Rattle.wave_order.specs.WaveItems.{plain_pending}
use Rattle.wave_objects.specs.Applying.{faults_by, made_by, pending_by}
use Rattle.wave_objects.proofs.gathering.add_applied.Given as goal

abbrev pub invariant-loop-applied : goal.invariant-loop-applied
invariant-loop-applied l =
    (map plain_pending l.out.items.items ++ flat_map made_by (into_iter_items l.applied-iterator) ≡ map plain_pending l.fn.out.items.items ++ flat_map made_by l.fn.rules.items)
    × (l.out.faults ++ flat_map faults_by (into_iter_items l.applied-iterator) ≡ l.fn.out.faults ++ flat_map faults_by l.fn.rules.items)
    × (l.out.items.items ++ flat_map pending_by (into_iter_items l.applied-iterator) ≡ l.fn.out.items.items ++ flat_map pending_by l.fn.rules.items)
