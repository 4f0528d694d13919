-- What a call of the reader gives.
use Rattle.std.specs.Prelude.{◌≡◌, Option, Some, None, Result, Ok, Err}
use Rattle.site_keep.specs.declared.keep_error.KeepError.{KeepError}
use Rattle.site_keep.specs.declared.keep_error.KeepError.TheVariants as error

-- an error that a call gave is what reading gives, unless memory ran out
abbrev pub Fails : {Y : Type 0} → KeepError → Option Y → Type 0
Fails error.BadState read = read ≡ None
Fails error.OutOfMemory read = Unit {0}

-- what a call returned, seen by view, is what reading gives, unless memory ran out
abbrev pub Gives : {X Y : Type 0} → (X → Y) → Result X KeepError → Option Y → Type 0
Gives view (Ok x) read = read ≡ Some (view x)
Gives view (Err e) read = Fails e read

-- what a call left, which changes something, is what reading gives, unless memory ran out
abbrev pub GivesNext : {Y : Type 0} → Result (Unit {0}) KeepError → Y → Option Y → Type 0
GivesNext (Ok x) next read = read ≡ Some next
GivesNext (Err e) next read = Fails e read

-- a call gave what this holds of, unless memory ran out
abbrev pub Tells : {X : Type 0} → (X → Type 0) → Result X KeepError → Type 0
Tells P (Ok x) = P x
Tells P (Err error.BadState) = ⊥
Tells P (Err error.OutOfMemory) = Unit {0}
