use Rattle.std.proofs.Common.{arith}
use Rattle.std.proofs.lemmas.Cmp.{nat_list_cmp_total}
use Rattle.std.proofs.lemmas.Map.Lookups.{exact_bytes}
use Rattle.dsl_lib.specs.Arguments.{text_in}
use Rattle.dsl_lib.proofs.AllIn.{front_all}
use Rattle.dsl_lib.proofs.Sorts.{sort_is}
use Rattle.dsl_lib.proofs.sorting.sorted_texts.Goals as goal

pub returns : goal.returns
returns c = (c.loop-item.texts.items, front_all text_in c.args.items.now c.loop-item.item-index c.loop-item.texts.items _ (omega arith) c.loop-item.invariant, sort_is nat_list_cmp_total exact_bytes _ _ c.in_ok-sort.ensures.permutation c.in_ok-sort.ensures.sorted)
