use Rattle.std.proofs.Common.{arith}
use Rattle.std.proofs.lemmas.Cmp.{int_cmp_total}
use Rattle.std.proofs.lemmas.Map.Lookups.{exact_signed}
use Rattle.dsl_lib.specs.Arguments.{number_in}
use Rattle.dsl_lib.proofs.AllIn.{front_all}
use Rattle.dsl_lib.proofs.Sorts.{sort_is}
use Rattle.dsl_lib.proofs.sorting.sorted_numbers.Goals as goal

pub returns : goal.returns
returns c = (c.loop-item.numbers.items, front_all number_in c.args.items.now c.loop-item.item-index c.loop-item.numbers.items _ (omega arith) c.loop-item.invariant, sort_is int_cmp_total exact_signed _ _ c.in_ok-sort.ensures.permutation c.in_ok-sort.ensures.sorted)
