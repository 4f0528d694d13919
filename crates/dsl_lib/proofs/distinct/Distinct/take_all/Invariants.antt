use Rattle.std.proofs.Common.{◌≡◌, drop}
use Rattle.dsl_lib.specs.Distinct.{Finds}
use Rattle.dsl_lib.specs.Sets.{distinct}
use Rattle.dsl_lib.proofs.distinct.Distinct.take_all.Given as goal

abbrev pub invariant-loop-value : goal.invariant-loop-value
invariant-loop-value l = record {
  taken_so_far : distinct l.store.cells l.self.items (drop l.value-index l.values) ≡ distinct l.store.cells l.fn.self.items l.values;
  finds : Finds l.store l.self;
}
