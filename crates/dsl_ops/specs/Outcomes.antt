-- What an operator comes to: a value, a new cell, or a fault.
use Rattle.std.specs.Prelude.{◌≡◌, ℕ, Option, Some, None, ℤ, Bool, Result, Ok, Err}
use Rattle.dsl_value.specs.Outcomes.{Outcome as Comes, outcome_of, units_of}
pub use Rattle.dsl_value.specs.Outcomes.{gives, makes, writes, refuses, after, answer}
use Rattle.dsl_value.specs.declared.making.Made.{Made}
use Rattle.dsl_value.specs.declared.value.Value.{Value}
use Rattle.dsl_value.specs.declared.value.Value.TheVariants as value
use Rattle.dsl_ops.specs.declared.op_fault.OpFault.{OpFault}
use Rattle.dsl_ops.specs.declared.op_fault.OpFault.TheVariants.{WrongType, Overflow, DivZero, OutOfMemory}

abbrev pub Outcome : Type 0
Outcome = Comes OpFault

-- the number, or Overflow if there is none
abbrev pub or_overflow : Option ℤ → Outcome
or_overflow (Some n) = gives (value.Number n)
or_overflow None = refuses Overflow

-- whether it holds, or WrongType where that can't be said of the operands
abbrev pub or_wrong_type : Option Bool → Outcome
or_wrong_type (Some b) = gives (value.Bool b)
or_wrong_type None = refuses WrongType

-- a result is this one, unless memory ran out
abbrev pub IsUnlessMemory : Result Value OpFault → Result Value OpFault → Type 0
IsUnlessMemory (Ok v) r = r ≡ Ok v
IsUnlessMemory (Err WrongType) r = r ≡ Err WrongType
IsUnlessMemory (Err Overflow) r = r ≡ Err Overflow
IsUnlessMemory (Err DivZero) r = r ≡ Err DivZero
IsUnlessMemory (Err OutOfMemory) r = Unit {0}

-- what a call that takes no memory returned
abbrev pub returned : Result Value OpFault → Outcome
returned (Ok v) = gives v
returned (Err e) = refuses e

abbrev pub number_returned : Result ℤ OpFault → Outcome
number_returned (Ok n) = gives (value.Number n)
number_returned (Err e) = refuses e

abbrev pub truth_returned : Result Bool OpFault → Outcome
truth_returned (Ok b) = gives (value.Bool b)
truth_returned (Err e) = refuses e

-- a fault that was answered is the one that the definition gives, unless memory ran out
abbrev pub Refused : Outcome → OpFault → Type 0
Refused o WrongType = o ≡ refuses WrongType
Refused o Overflow = o ≡ refuses Overflow
Refused o DivZero = o ≡ refuses DivZero
Refused o OutOfMemory = Unit {0}

-- what was made comes to this and costs so many units, or the fault is this, unless memory ran out
abbrev pub Gives : Result Made OpFault → Outcome → ℕ → Type 0
Gives (Ok m) o units = (o ≡ outcome_of m) × (units_of m ≡ units)
Gives (Err e) o units = Refused o e
