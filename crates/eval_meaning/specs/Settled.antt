-- What operators and calls of the library do to a state.
use Rattle.std.specs.Prelude.{ℕ, []}
use Rattle.site_base.specs.declared.place.Place.{Place}
use Rattle.site_base.specs.declared.diag_kind.DiagKind.{DiagKind}
use Rattle.dsl_value.specs.Contents.{Contents, with_cell}
use Rattle.dsl_value.specs.Outcomes as comes
use Rattle.dsl_value.specs.declared.value.Value.{Value}
use Rattle.dsl_value.specs.declared.value.Value.TheVariants as value
use Rattle.eval_meaning.specs.States.{State, Outcome, gives, ◌>>=◌, fault, charge, with_new}

-- the store of a state, as operators and the library take it: they look at no function
abbrev pub contents : State → Contents
contents s = record { cells = s.cells; base = s.base; functions = [] }

-- What was made or is written is charged before. A refusal is a fault of its kind.
abbrev pub settled : {F : Type 0} → (F → DiagKind) → Place → ℕ → comes.Outcome F → State → Outcome Value
settled kind l n (comes.gives v) s = charge l n s >>= λ _ s1. gives v s1
settled kind l n (comes.makes c) s = charge l n s >>= λ _ s1. with_new c s1
settled kind l n (comes.writes k c) s = charge l n s >>= λ _ s1. gives value.Null (record s1 { cells = with_cell s1.cells k c })
settled kind l n (comes.refuses e) s = fault l (kind e) s
