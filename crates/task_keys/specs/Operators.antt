-- The numbers of operators in keys.
use Rattle.std.specs.Prelude.{ℕ}
use Rattle.dsl_syntax.specs.declared.bin_op.BinOp.{BinOp}
use Rattle.dsl_syntax.specs.declared.bin_op.BinOp.TheVariants as bin
use Rattle.dsl_syntax.specs.declared.set_op.SetOp.{SetOp}
use Rattle.dsl_syntax.specs.declared.set_op.SetOp.TheVariants as setting
use Rattle.dsl_syntax.specs.declared.un_op.UnOp.{UnOp}
use Rattle.dsl_syntax.specs.declared.un_op.UnOp.TheVariants as un

abbrev pub unary_number : UnOp → ℕ
unary_number un.Not = 0
unary_number un.Complement = 1
unary_number un.Plus = 2
unary_number un.Minus = 3

abbrev pub binary_number : BinOp → ℕ
binary_number bin.Mul = 0
binary_number bin.Div = 1
binary_number bin.Rem = 2
binary_number bin.Add = 3
binary_number bin.Sub = 4
binary_number bin.ShiftLeft = 5
binary_number bin.ShiftRight = 6
binary_number bin.Less = 7
binary_number bin.Greater = 8
binary_number bin.LessEqual = 9
binary_number bin.GreaterEqual = 10
binary_number bin.In = 11
binary_number bin.NotIn = 12
binary_number bin.Equal = 13
binary_number bin.NotEqual = 14
binary_number bin.BitAnd = 15
binary_number bin.BitXor = 16
binary_number bin.BitOr = 17
binary_number bin.And = 18
binary_number bin.Or = 19

abbrev pub set_number : SetOp → ℕ
set_number setting.Plain = 0
set_number setting.Add = 1
set_number setting.Sub = 2
set_number setting.Mul = 3
set_number setting.Div = 4
