-- The calls that read objects. No other part of an evaluation looks at the objects of a view.
use Rattle.std.specs.Prelude.{List, [], ◌∷◌, ◌++◌}
use Rattle.site_base.specs.Data.{Data}
use Rattle.site_base.specs.declared.place.Place.{Place}
use Rattle.site_base.specs.declared.diag_kind.DiagKind.TheVariants.{WrongType, Arity}
use Rattle.dsl_value.specs.Loads.{cost, load, grown, given}
use Rattle.dsl_value.specs.declared.value.Value.{Value}
use Rattle.dsl_value.specs.declared.value.Value.TheVariants as value
use Rattle.eval_meaning.specs.Views.{View, host, service, Sight, shown, absent, undecided, sight}
use Rattle.eval_meaning.specs.States.{State, Outcome, gives, blocked, ◌>>=◌, fault, charge}
use Rattle.eval_meaning.specs.declared.read.Read.{Read}

-- a tree is made in the store, behind the other cells, without a charge
abbrev pub with_tree : Data → State → Outcome Value
with_tree d s = gives (given 0 s.cells (load d)) (record s { cells = grown 0 s.cells (load d) })

-- a tree is charged before it is made
abbrev pub loaded : Place → Data → State → Outcome Value
loaded l d s = charge l (cost d) s >>= λ _ s1. with_tree d s1

-- A read that was answered is one of the reads. One that isn't decided stands beside them in what blocks.
abbrev pub with_read : Read → State → State
with_read r s = record s { reads = s.reads ++ r ∷ [] }

-- an object that is shown comes as a dictionary, and one that is absent as null
abbrev pub seen : Place → Read → Sight → State → Outcome Value
seen l r (shown d) s = loaded l d (with_read r s)
seen l r absent s = gives value.Null (with_read r s)
seen l r undecided s = blocked r s.reads

unfoldable pub read : View → Place → Read → State → Outcome Value
read view l r s = seen l r (sight view r) s

-- `get_host` takes a string, and `get_service` two
abbrev pub read_host : View → Place → List Value → State → Outcome Value
read_host view l (value.Str n ∷ []) s = read view l (host n) s
read_host view l (v ∷ []) s = fault l WrongType s
read_host view l vs s = fault l Arity s

abbrev pub read_service : View → Place → List Value → State → Outcome Value
read_service view l (value.Str h ∷ value.Str n ∷ []) s = read view l (service h n) s
read_service view l (v ∷ w ∷ []) s = fault l WrongType s
read_service view l vs s = fault l Arity s
