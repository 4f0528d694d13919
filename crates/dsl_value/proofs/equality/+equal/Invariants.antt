use Rattle.std.proofs.Common.{◌≡◌, ◌+◌, ◌*◌, drop, length}
use Rattle.dsl_value.specs.Equality.{each_equal, each_pair_equal, equal_within}
use Rattle.dsl_value.specs.Known.{IsKnown}
use Rattle.dsl_value.specs.Whole.{NamesAll}
use Rattle.dsl_value.proofs.equality.+equal.Given as goal

abbrev pub invariant-items-loop-i : goal.invariant-items-loop-i
invariant-items-loop-i l = (each_equal (equal_within l.levels l.store.cells) (drop l.i l.left) (drop l.i l.right) ≡ each_equal (equal_within l.levels l.store.cells) l.left l.right) × IsKnown l.store.cells l.known

abbrev pub invariant-pairs-loop-one : goal.invariant-pairs-loop-one
invariant-pairs-loop-one l = (each_pair_equal (equal_within l.levels l.store.cells) l.left l.right ≡ each_pair_equal (equal_within l.levels l.store.cells) l.fn.left l.fn.right) × (NamesAll (length l.store.cells) (length l.store.functions) l.left × (NamesAll (length l.store.cells) (length l.store.functions) l.right × IsKnown l.store.cells l.known))

abbrev pub decreases-pairs-loop-one : goal.decreases-pairs-loop-one
decreases-pairs-loop-one l = length l.left

abbrev pub decreases-values : goal.decreases-values
decreases-values l = 4 * l.levels

abbrev pub decreases-items : goal.decreases-items
decreases-items l = 4 * l.levels + 1

abbrev pub decreases-pairs : goal.decreases-pairs
decreases-pairs l = 4 * l.levels + 1

abbrev pub decreases-cells : goal.decreases-cells
decreases-cells l = 4 * l.levels + 2

abbrev pub decreases-inside : goal.decreases-inside
decreases-inside l = 4 * l.levels + 3
