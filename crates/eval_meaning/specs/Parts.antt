-- How the parts of a node are evaluated.
use Rattle.site_base.specs.declared.place.Place.{Place}
use Rattle.dsl_syntax.specs.Syntax.{Expression, expression, Statement, MaybeExpression, no_expression, some_expression}
use Rattle.dsl_value.specs.declared.value.Value.{Value}
use Rattle.dsl_value.specs.declared.value.Value.TheVariants as value
use Rattle.eval_meaning.specs.States.{State, Outcome, gives}
use Rattle.eval_meaning.specs.declared.callee.Callee.{Callee}
use Rattle.eval_meaning.specs.declared.flow.Flow.{Flow}

-- How the parts of a node are evaluated: expressions, statements, and expressions that are called. What a node means is said with these as a
-- parameter, and `Evaluation` says what they are: the same once more, where one node less may be open.
pub record Parts : Type 0 where
  pub value : Expression → State → Outcome Value
  pub flow : Statement → State → Outcome Flow
  pub callee : Expression → State → Outcome Callee

abbrev pub place_of : Expression → Place
place_of (expression l k) = l

-- the value of an expression, and null without one
abbrev pub maybe_with : Parts → MaybeExpression → State → Outcome Value
maybe_with ev no_expression s = gives value.Null s
maybe_with ev (some_expression e) s = ev.value e s
