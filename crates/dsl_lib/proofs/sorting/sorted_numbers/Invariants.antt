use Rattle.std.proofs.Common.{◌≡◌, drop}
use Rattle.dsl_lib.specs.Arguments.{number_in}
use Rattle.dsl_lib.specs.Arrays.{all_in}
use Rattle.dsl_lib.proofs.AllIn.{with_front}
use Rattle.dsl_lib.proofs.sorting.sorted_numbers.Given as goal

abbrev pub invariant-loop-item : goal.invariant-loop-item
invariant-loop-item l = with_front l.numbers.items (all_in number_in (drop l.item-index l.items)) ≡ all_in number_in l.items
