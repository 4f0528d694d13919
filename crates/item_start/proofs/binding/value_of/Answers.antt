use Rattle.std.proofs.Common.{Option, subst}
use Rattle.std.specs.Prelude.{IfSome}
use Rattle.dsl_value.specs.Contents.{Contents}
use Rattle.dsl_value.specs.declared.value.Value.{Value}
use Rattle.eval_work.specs.Kept.{Named}
use Rattle.item_start.proofs.binding.value_of.Goals as goal

pub returns-in-Some-clause-named : goal.returns-in-Some-clause-named
returns-in-Some-clause-named c = subst (λ (o : Option Value). IfSome o (λ v. (s : Contents) → Named s v)) c.in-Some.is c.in_ok-value.ensures.named c.args.store.now
