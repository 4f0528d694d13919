use Rattle.std.proofs.Common.{◌≡◌, drop}
use Rattle.dsl_lib.specs.Arrays.{has_equal}
use Rattle.dsl_lib.proofs.arrays.has.Given as goal

abbrev pub invariant-loop-item : goal.invariant-loop-item
invariant-loop-item l = has_equal l.store.cells (drop l.item-index l.items) l.value ≡ has_equal l.store.cells l.items l.value
