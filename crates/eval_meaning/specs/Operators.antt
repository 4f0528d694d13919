-- Operators.
use Rattle.std.specs.Prelude.{Bool, if◌then◌else◌}
use Rattle.site_base.specs.declared.place.Place.{Place}
use Rattle.site_base.specs.declared.diag_kind.DiagKind.{DiagKind}
use Rattle.site_base.specs.declared.diag_kind.DiagKind.TheVariants as kind
use Rattle.dsl_syntax.specs.Syntax.{Expression}
use Rattle.dsl_syntax.specs.declared.un_op.UnOp.{UnOp}
use Rattle.dsl_syntax.specs.declared.bin_op.BinOp.{BinOp}
use Rattle.dsl_syntax.specs.declared.bin_op.BinOp.TheVariants as bin
use Rattle.dsl_value.specs.declared.value.Value.{Value}
use Rattle.dsl_ops.specs.Operands.{operand, is_true}
use Rattle.dsl_ops.specs.Table.{binary_outcome, unary_outcome}
use Rattle.dsl_ops.specs.Units.{binary_units}
use Rattle.dsl_ops.specs.declared.op_fault.OpFault.{OpFault}
use Rattle.dsl_ops.specs.declared.op_fault.OpFault.TheVariants as op_fault
use Rattle.eval_meaning.specs.States.{State, Outcome, gives, ◌>>=◌}
use Rattle.eval_meaning.specs.Settled.{settled}
use Rattle.eval_meaning.specs.Parts.{Parts}

-- Operators fault in three ways; that memory ran out is no answer of their table.
abbrev pub op_kind : OpFault → DiagKind
op_kind op_fault.WrongType = kind.WrongType
op_kind op_fault.Overflow = kind.Overflow
op_kind op_fault.DivZero = kind.DivZero
op_kind op_fault.OutOfMemory = kind.WrongType

-- whether a value counts as true
abbrev pub holds : State → Value → Bool
holds s v = is_true (operand s.cells v)

unfoldable pub operated : Place → BinOp → Value → Value → State → Outcome Value
operated l o a b s = settled op_kind l (binary_units s.cells o a b) (binary_outcome s.cells o a b) s

-- an operator before its operand makes nothing
abbrev pub unary_with : Parts → Place → UnOp → Expression → State → Outcome Value
unary_with ev l o e s = ev.value e s >>= λ v s1. settled op_kind l 0 (unary_outcome s1.cells o v) s1

-- both operands are evaluated
abbrev pub both_with : Parts → Place → BinOp → Expression → Expression → State → Outcome Value
both_with ev l o a b s = ev.value a s >>= λ x s1. (ev.value b s1 >>= λ y s2. operated l o x y s2)

-- the right operand of `&&` and `||` is evaluated where the left one doesn't decide
abbrev pub and_with : Parts → Expression → Expression → State → Outcome Value
and_with ev a b s = ev.value a s >>= λ x s1. (if holds s1 x then ev.value b s1 else gives x s1)

abbrev pub or_with : Parts → Expression → Expression → State → Outcome Value
or_with ev a b s = ev.value a s >>= λ x s1. (if holds s1 x then gives x s1 else ev.value b s1)

abbrev pub binary_with : Parts → Place → BinOp → Expression → Expression → State → Outcome Value
binary_with ev l bin.And a b s = and_with ev a b s
binary_with ev l bin.Or a b s = or_with ev a b s
binary_with ev l o a b s = both_with ev l o a b s
