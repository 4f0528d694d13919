-- Functions that are called, and what is thrown.
use Rattle.std.specs.Prelude.{◌≡◌, ℕ, [], Option, Some, None}
use Rattle.site_base.specs.declared.place.Place.{Place}
use Rattle.site_base.specs.declared.diag_kind.DiagKind.TheVariants.{Thrown, WrongType}
use Rattle.dsl_syntax.specs.declared.func.Func.{Func}
use Rattle.dsl_value.specs.Pairs.{Pairs}
use Rattle.dsl_value.specs.Contents.{Contents, PlainFunction, function_at}
use Rattle.dsl_value.specs.declared.value.Value.{Value}
use Rattle.dsl_value.specs.declared.value.Value.TheVariants as value
use Rattle.eval_work.specs.Works.{IsFault, IsNamedFault}
use Rattle.eval_work.specs.declared.stop.Stop.{Stop}

abbrev pub captured_of : Option PlainFunction → Pairs
captured_of (Some f) = f.captured
captured_of None = []

-- what a function of a store captured
abbrev pub captured_at : Contents → ℕ → Pairs
captured_at c k = captured_of (function_at c.functions k)

-- this is the function of an index
abbrev pub IsFunctionAt : Contents → ℕ → Func → Type 0
IsFunctionAt c k f = function_at c.functions k ≡ Some (record { func = f; captured = captured_at c k })

-- the fault of a value that is thrown, unless memory ran out
abbrev pub IsThrown : Stop → Place → Value → Type 0
IsThrown s l (value.Str t) = IsNamedFault s l Thrown t
IsThrown s l v = IsFault s l WrongType []
