use Rattle.std.proofs.Common.{◌≡◌, drop}
use Rattle.dsl_lib.specs.Arguments.{text_in}
use Rattle.dsl_lib.specs.Arrays.{all_in}
use Rattle.dsl_lib.proofs.AllIn.{with_front}
use Rattle.dsl_lib.proofs.sorting.sorted_texts.Given as goal

abbrev pub invariant-loop-item : goal.invariant-loop-item
invariant-loop-item l = with_front l.texts.items (all_in text_in (drop l.item-index l.items)) ≡ all_in text_in l.items
