use Rattle.std.proofs.Common.{◌≡◌, List, [], drop}
use Rattle.std.specs.List.{flat_map}
use Rattle.dsl_value.specs.declared.value.Value.{Value}
use Rattle.dsl_lib.specs.Arguments.{items_in}
use Rattle.dsl_lib.specs.Arrays.{all_in}
use Rattle.dsl_lib.specs.Distinct.{Finds}
use Rattle.dsl_lib.specs.Sets.{distinct}
use Rattle.dsl_lib.proofs.AllIn.{with_front}
use Rattle.dsl_lib.proofs.sets.united.Given as goal

abbrev pub invariant-loop-array : goal.invariant-loop-array
invariant-loop-array l = Finds l.store l.taken × ((made : List (List Value)) × (l.taken.items ≡ distinct l.store.cells [] (flat_map (λ xs. xs) made)) × (with_front made (all_in (items_in l.store.cells) (drop l.array-index l.arrays)) ≡ all_in (items_in l.store.cells) l.arrays))
