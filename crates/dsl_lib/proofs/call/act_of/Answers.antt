use Rattle.std.proofs.Common.{IfOk, sym, subst}
use Rattle.dsl_value.specs.Outcomes.{StandsAct}
use Rattle.dsl_lib.proofs.Calls.{array_stand, texts_stand}
use Rattle.dsl_lib.proofs.call.act_of.Goals as goal

pub returns-in-Range-clause-stands : goal.returns-in-Range-clause-stands
returns-in-Range-clause-stands c = subst (λ r. IfOk r (StandsAct c.args.store.now)) (sym c.array.ensures) (array_stand c.args.store.now c.range.result (c.range.ensures.stands _ _))

pub returns-in-TextSplit-clause-stands : goal.returns-in-TextSplit-clause-stands
returns-in-TextSplit-clause-stands c = subst (λ r. IfOk r (StandsAct c.args.store.now)) (sym c.texts-in-TextSplit.ensures) (texts_stand c.args.store.now c.split.result (c.split.ensures.stands _ _))
