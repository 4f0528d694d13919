-- The methods of arrays that call a function for each element.
use Rattle.std.specs.Prelude.{List, [], ◌∷◌, ◌++◌, Bool, true, false, not, if◌then◌else◌}
use Rattle.std.specs.Bool.{beq}
use Rattle.site_base.specs.declared.place.Place.{Place}
use Rattle.site_base.specs.declared.diag_kind.DiagKind.TheVariants.{WrongType, Arity}
use Rattle.dsl_value.specs.Contents.{PlainCell, cell_at, values_of}
use Rattle.dsl_value.specs.declared.value.Value.{Value}
use Rattle.dsl_value.specs.declared.value.Value.TheVariants as value
use Rattle.eval_meaning.specs.States.{State, Outcome, gives, ◌>>=◌, fault}
use Rattle.eval_meaning.specs.Parts.{Parts}
use Rattle.eval_meaning.specs.Literals.{new_array}
use Rattle.eval_meaning.specs.Operators.{holds}
use Rattle.eval_meaning.specs.Functions.{apply_with}

-- The function is called with the `this` of the frame in which the method is called.
abbrev pub visited : Parts → Place → Value → Value → State → Outcome Value
visited ev l f v s = apply_with ev l f s.this (v ∷ []) s

-- what the function gives of each element, behind what is there
abbrev pub mapped : Parts → Place → Value → List Value → List Value → State → Outcome (List Value)
mapped ev l f [] ws s = gives ws s
mapped ev l f (v ∷ vs) ws s = visited ev l f v s >>= λ w s1. mapped ev l f vs (ws ++ w ∷ []) s1

-- the elements of which it gives something true, behind what is there
abbrev pub filtered : Parts → Place → Value → List Value → List Value → State → Outcome (List Value)
filtered ev l f [] ws s = gives ws s
filtered ev l f (v ∷ vs) ws s = visited ev l f v s >>= λ w s1. filtered ev l f vs (if holds s1 w then ws ++ v ∷ [] else ws) s1

-- whether it gives of some element what has this truth; the first such element ends the visit
abbrev pub found : Parts → Place → Bool → Value → List Value → State → Outcome Bool
found ev l wanted f [] s = gives false s
found ev l wanted f (v ∷ vs) s = visited ev l f v s >>= λ w s1. (if beq (holds s1 w) wanted then gives true s1 else found ev l wanted f vs s1)

abbrev pub map_with : Parts → Place → Value → List Value → State → Outcome Value
map_with ev l f vs s = mapped ev l f vs [] s >>= λ ws s1. new_array l ws s1

abbrev pub filter_with : Parts → Place → Value → List Value → State → Outcome Value
filter_with ev l f vs s = filtered ev l f vs [] s >>= λ ws s1. new_array l ws s1

abbrev pub any_with : Parts → Place → Value → List Value → State → Outcome Value
any_with ev l f vs s = found ev l true f vs s >>= λ b s1. gives (value.Bool b) s1

abbrev pub all_with : Parts → Place → Value → List Value → State → Outcome Value
all_with ev l f vs s = found ev l false f vs s >>= λ b s1. gives (value.Bool (not b)) s1

abbrev pub elements : List PlainCell → Value → List Value
elements cells (value.Ref k) = values_of (cell_at cells k)
elements cells v = []

-- what stands in the array once the argument was evaluated is gone over
abbrev pub visits_by : (Value → List Value → State → Outcome Value) → Place → List Value → State → Outcome Value
visits_by visit l (a ∷ value.Func k ∷ []) s = visit (value.Func k) (elements s.cells a) s
visits_by visit l (a ∷ v ∷ []) s = fault l WrongType s
visits_by visit l vs s = fault l Arity s
