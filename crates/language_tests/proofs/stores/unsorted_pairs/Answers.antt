use Rattle.std.proofs.Common.{◌∷◌, [], subst, sym}
use Rattle.dsl_value.specs.Whole.{Names, NamesAll}
use Rattle.dsl_value.proofs.Kept.{all_append}
use Rattle.language_tests.proofs.stores.unsorted_pairs.Goals as goal

pub loop-number-preserved : goal.loop-number-preserved
loop-number-preserved c = subst (NamesAll 0 0) (sym c.in_ok-push.ensures.ok) (all_append (λ p. Names 0 0 p.1) _ (_ ∷ []) c.loop-number.invariant (tt, tt))
