-- What is kept where there may be no value.
use Rattle.std.specs.Prelude.{Option}
use Rattle.dsl_value.specs.declared.value.Value.{Value}
use Rattle.eval_work.specs.Kept.{IsFit, IsLater}
use Rattle.eval_work.specs.declared.work.Work.{Work}
use Rattle.eval_steps.specs.Values.{MaybeNamed}

-- the work is fit, and the value names what is there, if there is one
pub record IsMaybeKept (old new : Work) (o : Option Value) : Type 0 where
  pub fit : IsFit new
  pub later : IsLater old.store new.store
  pub named : MaybeNamed new.store o
