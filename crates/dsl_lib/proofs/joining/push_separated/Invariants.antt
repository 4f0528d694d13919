use Rattle.std.proofs.Common.{◌≡◌, ◌++◌, ℕ, List, drop}
use Rattle.std.specs.List.{flat_map}
use Rattle.dsl_lib.specs.Scalars.{scalar_text}
use Rattle.dsl_lib.specs.Arrays.{all_in}
use Rattle.dsl_lib.proofs.AllIn.{with_front}
use Rattle.dsl_lib.proofs.joining.push_separated.Given as goal

abbrev pub invariant-loop-item : goal.invariant-loop-item
invariant-loop-item l = (made : List (List ℕ)) × (l.out ≡ l.fn.out ++ flat_map (λ t. l.separator ++ t) made) × (with_front made (all_in scalar_text (drop l.item-index l.items)) ≡ all_in scalar_text l.items)
