use Rattle.std.proofs.lemmas.Cmp.{nat_list_cmp_total, int_cmp_total}
use Rattle.std.proofs.lemmas.Map.Lookups.{exact_bytes, exact_signed}
use Rattle.dsl_lib.proofs.Sorts.{sorted_moves, sorted_rises}
use Rattle.dsl_lib.proofs.laws.sorted_elements_rise.Goals as goal

pub returns : goal.returns
returns c = record {
  same_texts = sorted_moves nat_list_cmp_total exact_bytes;
  texts_rise = sorted_rises nat_list_cmp_total exact_bytes;
  same_numbers = sorted_moves int_cmp_total exact_signed;
  numbers_rise = sorted_rises int_cmp_total exact_signed;
}
