-- Strings, arrays and dictionaries as they are written.
use Rattle.std.specs.Prelude.{ℕ, ◌+◌, List, [], ◌∷◌, ◌++◌, length}
use Rattle.site_base.specs.declared.place.Place.{Place}
use Rattle.dsl_syntax.specs.Syntax.{Expressions, no_expressions, more_expressions, Entries, no_entries, more_entries}
use Rattle.dsl_value.specs.Pairs.{Pairs, dict_of}
use Rattle.dsl_value.specs.Contents.{PlainCell, array, dict}
use Rattle.dsl_value.specs.declared.value.Value.{Value}
use Rattle.dsl_value.specs.declared.value.Value.TheVariants as value
use Rattle.eval_meaning.specs.States.{State, Outcome, gives, ◌>>=◌, charge, with_new}
use Rattle.eval_meaning.specs.Parts.{Parts}

-- a string costs its bytes each time that its literal is evaluated
abbrev pub string_value : Place → List ℕ → State → Outcome Value
string_value l t s = charge l (length t) s >>= λ _ s1. gives (value.Str t) s1

-- a new cell, which is charged before it is made
abbrev pub new_cell : Place → ℕ → PlainCell → State → Outcome Value
new_cell l n c s = charge l n s >>= λ _ s1. with_new c s1

-- a new array or dictionary costs a unit, and one for each element or pair; pairs are counted as they are written, equal keys too
abbrev pub new_array : Place → List Value → State → Outcome Value
new_array l vs s = new_cell l (1 + length vs) (array vs) s

abbrev pub new_dict : Place → Pairs → State → Outcome Value
new_dict l ps s = new_cell l (1 + length ps) (dict (dict_of ps [])) s

-- the values of expressions, from left to right, behind those that are there
abbrev pub values_with : Parts → Expressions → List Value → State → Outcome (List Value)
values_with ev no_expressions vs s = gives vs s
values_with ev (more_expressions e es) vs s = ev.value e s >>= λ v s1. values_with ev es (vs ++ v ∷ []) s1

-- the pairs of a dictionary as they are written, behind those that are there
abbrev pub pairs_with : Parts → Entries → Pairs → State → Outcome Pairs
pairs_with ev no_entries ps s = gives ps s
pairs_with ev (more_entries k e es) ps s = ev.value e s >>= λ v s1. pairs_with ev es (ps ++ (k, v) ∷ []) s1

abbrev pub array_with : Parts → Place → Expressions → State → Outcome Value
array_with ev l es s = values_with ev es [] s >>= λ vs s1. new_array l vs s1

abbrev pub dict_with : Parts → Place → Entries → State → Outcome Value
dict_with ev l es s = pairs_with ev es [] s >>= λ ps s1. new_dict l ps s1
