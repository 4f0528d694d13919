use Rattle.std.proofs.Common.{◌≡◌, length}
use Rattle.dsl_value.specs.Whole.{Names}
use Rattle.language_tests.proofs.stores.deep_value.Given as goal

abbrev pub invariant-loop-made : goal.invariant-loop-made
invariant-loop-made l = (length l.store.cells ≡ l.made) × ((length l.store.functions ≡ 1) × Names l.made 1 l.inner)
