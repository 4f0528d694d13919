use Rattle.std.proofs.Common.{◌≡◌, List, drop, length}
use Rattle.std.specs.List.{AllByRecursion, filter}
use Rattle.dsl_value.specs.Whole.{Names}
use Rattle.dsl_value.specs.declared.value.Value.{Value}
use Rattle.dsl_lib.specs.Arguments.{items_in}
use Rattle.dsl_lib.specs.Arrays.{all_in}
use Rattle.dsl_lib.specs.Sets.{is_common}
use Rattle.dsl_lib.proofs.AllIn.{with_front}
use Rattle.dsl_lib.proofs.sets.kept_in_all.Given as goal

abbrev pub invariant-loop-array : goal.invariant-loop-array
invariant-loop-array l = AllByRecursion (Names (length l.store.cells) (length l.store.functions)) l.kept × ((made : List (List Value)) × (l.kept ≡ filter (is_common l.store.cells made) l.values) × (with_front made (all_in (items_in l.store.cells) (drop l.array-index l.arrays)) ≡ all_in (items_in l.store.cells) l.arrays))
