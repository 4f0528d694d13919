use Rattle.std.proofs.Common.{sym, subst, ◌∙◌}
use Rattle.dsl_value.specs.Pairs.{IsAt, IsGapFor}
use Rattle.dsl_value.proofs.Places.{without_at, without_in_gap}
use Rattle.dsl_value.proofs.pairs.remove_pair.Goals as goal

pub returns-in-Ok : goal.returns-in-Ok
returns-in-Ok c = c.remove.ensures.items ∙ sym (without_at _ _ _ (subst (λ ps. IsAt ps c.args.key.now c.in-Ok.at) c.deref.ensures.value c.in-Ok.ensures.found))

pub returns-in-Err : goal.returns-in-Err
returns-in-Err c = sym (without_in_gap _ _ _ (subst (λ ps. IsGapFor ps c.args.key.now c.in-Err.field-0) c.deref.ensures.value c.in-Err.ensures.absent))
