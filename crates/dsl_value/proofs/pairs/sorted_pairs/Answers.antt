use Rattle.std.proofs.Common.{T, sym, subst}
use Rattle.dsl_value.specs.Pairs.{is_sorted}
use Rattle.dsl_value.proofs.Rising.{dict_of_sorted}
use Rattle.dsl_value.proofs.pairs.sorted_pairs.Goals as goal

pub returns-then-rises : goal.returns-then-rises
returns-then-rises c = sym (dict_of_sorted _ (subst (λ ps. T (is_sorted ps)) c.deref.ensures.value (c.rises.ensures c.if-rises.true)))
