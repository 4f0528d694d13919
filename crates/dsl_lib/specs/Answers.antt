-- What a call of the library answers, and what it does to the store.
use Rattle.std.specs.Prelude.{◌≡◌, ◌≤◌, ℕ, List, [], ◌∷◌, ◌++◌, length, Option, Some, None, Result, Ok, Err}
use Rattle.dsl_value.specs.Contents.{Contents, PlainCell, array, with_cells, with_cell}
use Rattle.dsl_value.specs.Outcomes.{Outcome, written as frozen_or_written, act_outcome, act_units}
pub use Rattle.dsl_value.specs.Outcomes.{gives, makes, writes, refuses}
use Rattle.dsl_value.specs.declared.acting.Act.{Act}
use Rattle.dsl_value.specs.declared.acting.Act.TheVariants as act
use Rattle.dsl_value.specs.declared.making.Made.TheVariants as made
use Rattle.dsl_value.specs.declared.value.Value.{Value}
use Rattle.dsl_value.specs.declared.value.Value.TheVariants as value
use Rattle.dsl_lib.specs.declared.lib_fault.LibFault.{LibFault}
use Rattle.dsl_lib.specs.declared.lib_fault.LibFault.TheVariants.{Arity, WrongType, Overflow, Frozen, OutOfMemory}

abbrev pub Answer : Type 0
Answer = Outcome LibFault

-- the arguments are so many, or the number of them is wrong
abbrev pub counted : {A : Type 0} → Option A → (A → Answer) → Answer
counted None f = refuses Arity
counted (Some a) f = f a

-- a value has the type that is wanted, or the type is wrong
abbrev pub typed : {A : Type 0} → Option A → (A → Answer) → Answer
typed None f = refuses WrongType
typed (Some a) f = f a

-- a cell below the base is frozen
abbrev pub written : Contents → ℕ → PlainCell → Answer
written = frozen_or_written Frozen

-- what a call gave, and the store behind it
abbrev pub Gave : Contents → Answer → Value → Contents → Type 0
Gave old (gives v) r new = (r ≡ v) × (new ≡ old)
Gave old (makes c) r new = (r ≡ value.Ref (length old.cells)) × (new ≡ with_cells old (old.cells ++ c ∷ []))
Gave old (writes k c) r new = (r ≡ value.Null) × (new ≡ with_cells old (with_cell old.cells k c))
Gave old (refuses e) r new = ⊥

-- a fault that was answered is the one that the definition gives, unless memory ran out
abbrev pub Refused : Answer → LibFault → Type 0
Refused a OutOfMemory = Unit {0}
Refused a Arity = a ≡ refuses Arity
Refused a WrongType = a ≡ refuses WrongType
Refused a Overflow = a ≡ refuses Overflow
Refused a Frozen = a ≡ refuses Frozen

-- a call on a store did what the definition says, or was refused and changed nothing
abbrev pub Answers : Contents → Answer → Result Value LibFault → Contents → Type 0
Answers old a (Ok r) new = Gave old a r new
Answers old a (Err e) new = Refused a e × (new ≡ old)

-- the same of a call that changes nothing
abbrev pub Returns : Answer → Result Value LibFault → Type 0
Returns a (Ok r) = a ≡ gives r
Returns a (Err e) = Refused a e

-- no cell or function is lost, and the base stays
abbrev pub Keeps : Contents → Contents → Type 0
Keeps old new = (length old.cells ≤ length new.cells) × (new.base ≡ old.base) × (new.functions ≡ old.functions)

-- there is no such value, so its type is wrong, unless memory ran out
abbrev pub IsWrong : {A : Type 0} → Option A → LibFault → Type 0
IsWrong o OutOfMemory = Unit {0}
IsWrong o WrongType = o ≡ None
IsWrong o Arity = ⊥
IsWrong o Overflow = ⊥
IsWrong o Frozen = ⊥

-- the same of a call that makes an array
abbrev pub ReturnsArray : Answer → Result (List Value) LibFault → Type 0
ReturnsArray a (Ok vs) = a ≡ makes (array vs)
ReturnsArray a (Err e) = Refused a e

-- what is made or written comes to this and costs so many units, or the fault is this
abbrev pub Acts : Contents → Answer → ℕ → Result Act LibFault → Type 0
Acts s a units (Ok x) = (a ≡ act_outcome s x) × (act_units x ≡ units)
Acts s a units (Err e) = Refused a e

-- a text that a call gives was made by it
abbrev pub made_by : Result Value LibFault → Result Act LibFault
made_by (Ok (value.Str t)) = Ok (act.Make (made.Text t))
made_by (Ok v) = Ok (act.Make (made.Value v))
made_by (Err e) = Err e

-- or was there before
abbrev pub kept_by : Result Value LibFault → Result Act LibFault
kept_by (Ok v) = Ok (act.Make (made.Value v))
kept_by (Err e) = Err e

-- a new array, of values that were there or of texts that were made
abbrev pub array_by : Result (List Value) LibFault → Result Act LibFault
array_by (Ok vs) = Ok (act.Make (made.Array vs))
array_by (Err e) = Err e

abbrev pub texts_by : Result (List Value) LibFault → Result Act LibFault
texts_by (Ok vs) = Ok (act.Make (made.Texts vs))
texts_by (Err e) = Err e
