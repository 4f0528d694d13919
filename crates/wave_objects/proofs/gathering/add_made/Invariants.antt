use Rattle.std.proofs.Common.{◌≡◌, ◌++◌, map}
use Rattle.std.specs.Vec.Iter.{into_iter_items}
use Rattle.apply_rules.specs.Plain.{plain_instance}
use Rattle.wave_order.specs.WaveItems.{as_made, plain_pending}
use Rattle.wave_objects.proofs.gathering.add_made.Given as goal

abbrev pub invariant-loop-instance : goal.invariant-loop-instance
invariant-loop-instance l =
    (map plain_pending l.out.items ++ map plain_instance (into_iter_items l.instance-iterator) ≡ map plain_pending l.fn.out.items ++ map plain_instance l.fn.made.items)
    × (l.out.items ++ map as_made (into_iter_items l.instance-iterator) ≡ l.fn.out.items ++ map as_made l.fn.made.items)
