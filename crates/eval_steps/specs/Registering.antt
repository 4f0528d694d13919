-- What is registered under a name.
use Rattle.std.specs.Prelude.{ℕ, List, [], Option, Some, None}
use Rattle.site_base.specs.declared.place.Place.{Place}
use Rattle.dsl_syntax.specs.Syntax.{Expression, MaybeExpression, some_expression, Uses, Statements}
use Rattle.dsl_value.specs.Pairs.{Pairs}
use Rattle.dsl_value.specs.declared.value.Value.{Value}
use Rattle.eval_meaning.specs.Registered.{PlacedName}
use Rattle.eval_meaning.specs.Views.{View}
use Rattle.eval_meaning.specs.States.{State, Outcome, gives, ◌>>=◌}
use Rattle.eval_meaning.specs.Parts.{Parts, place_of}
use Rattle.eval_meaning.specs.Functions.{captured_with}
use Rattle.eval_meaning.specs.Registration.{at_load, name_by, prefix_by, item_registered, template_registered}
use Rattle.eval_meaning.specs.declared.flow.Flow.{Flow}
use Rattle.eval_steps.specs.declared.registering.Sort.{Sort}
use Rattle.eval_steps.specs.declared.registering.Sort.TheVariants as sorts

abbrev pub registered : View → Sort → Place → List ℕ → List ℕ → Pairs → Statements → State → Outcome Flow
registered view sorts.Object l kind n ps b s = item_registered view l kind n ps b s
registered view sorts.Template l kind n ps b s = template_registered view l kind n ps b s

-- an object or a template
abbrev pub named_with : View → Parts → Sort → Place → List ℕ → Expression → Uses → Statements → State → Outcome Flow
named_with view ev sort l kind e us b s =
    at_load l s >>= λ _ s1. (ev.value e s1 >>= λ v s2. (name_by (place_of e) v s2 >>= λ n s3. (captured_with ev l us [] s3 >>= λ ps s4. registered view sort l kind n ps b s4)))

-- the name of a rule, by the value of its expression
abbrev pub prefix_of : MaybeExpression → Option Value → State → Outcome (Option PlacedName)
prefix_of (some_expression e) (Some v) s = prefix_by (place_of e) v s
prefix_of e v s = gives None s
