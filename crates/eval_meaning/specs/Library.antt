-- The calls of the library that call no function and read no object.
use Rattle.std.specs.Prelude.{List}
use Rattle.site_base.specs.declared.place.Place.{Place}
use Rattle.site_base.specs.declared.diag_kind.DiagKind.{DiagKind}
use Rattle.site_base.specs.declared.diag_kind.DiagKind.TheVariants as kind
use Rattle.dsl_value.specs.declared.value.Value.{Value}
use Rattle.dsl_lib.specs.Library.{answer}
use Rattle.dsl_lib.specs.Units.{units}
use Rattle.dsl_lib.specs.declared.lib_fault.LibFault.{LibFault}
use Rattle.dsl_lib.specs.declared.lib_fault.LibFault.TheVariants as lib_fault
use Rattle.dsl_lib.specs.declared.plain.Plain.{Plain}
use Rattle.eval_meaning.specs.States.{State, Outcome}
use Rattle.eval_meaning.specs.Settled.{contents, settled}

-- The library refuses in four ways; that memory ran out is no answer of its table.
abbrev pub lib_kind : LibFault → DiagKind
lib_kind lib_fault.Arity = kind.Arity
lib_kind lib_fault.WrongType = kind.WrongType
lib_kind lib_fault.Overflow = kind.Overflow
lib_kind lib_fault.Frozen = kind.FrozenWrite
lib_kind lib_fault.OutOfMemory = kind.WrongType

unfoldable pub call_plain : Place → Plain → List Value → State → Outcome Value
call_plain l c vs s = settled lib_kind l (units c (answer c (contents s) vs)) (answer c (contents s) vs) s
