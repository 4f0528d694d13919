-- Statements that evaluate one expression and then end.
use Rattle.std.specs.Prelude.{Option}
use Rattle.site_base.specs.declared.place.Place.{Place}
use Rattle.dsl_syntax.specs.Syntax.{MaybeExpression}
use Rattle.dsl_value.specs.declared.value.Value.{Value}
use Rattle.eval_meaning.specs.States.{State, Outcome, gives, ◌>>=◌, done}
use Rattle.eval_meaning.specs.Parts.{Parts}
use Rattle.eval_meaning.specs.Frames.{set_local}
use Rattle.eval_meaning.specs.Flow.{thrown}
use Rattle.eval_meaning.specs.Registration.{at_load, constant_set}
use Rattle.eval_meaning.specs.declared.flow.Flow.{Flow}
use Rattle.eval_meaning.specs.declared.flow.Flow.TheVariants as flow
use Rattle.eval_steps.specs.Values.{maybe_value, or_null}
use Rattle.eval_steps.specs.declared.finishing.Then.{Then}
use Rattle.eval_steps.specs.declared.finishing.Then.TheVariants as thens

-- what is looked at before the expression
abbrev pub admitted : Place → Then → State → Outcome (Unit {0})
admitted l (thens.Constant n) s = at_load l s
admitted l t s = done s

-- what is done with the value
abbrev pub finished : Place → Then → Option Value → State → Outcome Flow
finished l thens.Dropped o s = gives flow.On s
finished l thens.Returned o s = gives (flow.Returned (or_null o)) s
finished l thens.Thrown o s = thrown l (or_null o) s
finished l (thens.Local n) o s = gives flow.On (set_local n.now (or_null o) s)
finished l (thens.Constant n) o s = constant_set l n.now (or_null o) s

abbrev pub valued_with : Parts → Place → Then → MaybeExpression → State → Outcome Flow
valued_with ev l t o s = admitted l t s >>= λ _ s1. (maybe_value ev o s1 >>= λ v s2. finished l t v s2)
