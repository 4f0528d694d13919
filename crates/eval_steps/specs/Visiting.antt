-- The methods that call a function for each element.
use Rattle.std.specs.Prelude.{List, [], ◌∷◌, ◌++◌, Bool, if◌then◌else◌}
use Rattle.site_base.specs.declared.place.Place.{Place}
use Rattle.site_base.specs.declared.diag_kind.DiagKind.TheVariants.{WrongType, Arity}
use Rattle.dsl_value.specs.declared.value.Value.{Value}
use Rattle.dsl_value.specs.declared.value.Value.TheVariants as value
use Rattle.eval_meaning.specs.States.{State, Outcome, gives, fault}
use Rattle.eval_meaning.specs.Parts.{Parts}
use Rattle.eval_meaning.specs.Visits.{elements, map_with, filter_with, any_with, all_with}
use Rattle.eval_steps.specs.declared.visits.Method.{Method}
use Rattle.eval_steps.specs.declared.visits.Method.TheVariants as visit
use Rattle.eval_steps.specs.declared.visits.Visited.{Visited}

-- a function, and the elements for which it is called
pub record PlainVisited : Type 0 where
  pub func : Value
  pub items : List Value

abbrev pub plain_visited : Visited → PlainVisited
plain_visited v = record { func = v.func; items = v.items.items }

abbrev pub visited_by : Place → List Value → State → Outcome PlainVisited
visited_by l (a ∷ value.Func k ∷ []) s = gives (record { func = value.Func k; items = elements s.cells a }) s
visited_by l (a ∷ v ∷ []) s = fault l WrongType s
visited_by l vs s = fault l Arity s

abbrev pub visit_over : (Value → List Value → State → Outcome Value) → PlainVisited → State → Outcome Value
visit_over visit p s = visit p.func p.items s

abbrev pub visit_with : Parts → Place → Method → Value → List Value → State → Outcome Value
visit_with ev l visit.Map f vs s = map_with ev l f vs s
visit_with ev l visit.Filter f vs s = filter_with ev l f vs s
visit_with ev l visit.Any f vs s = any_with ev l f vs s
visit_with ev l visit.All f vs s = all_with ev l f vs s

-- an element more, if it is kept
abbrev pub with_item : Bool → Value → List Value → List Value
with_item b v vs = if b then vs ++ v ∷ [] else vs
