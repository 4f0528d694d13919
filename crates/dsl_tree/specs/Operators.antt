-- How operators are written.
use Rattle.std.specs.Prelude.{ℕ, List, codes}
use Rattle.dsl_syntax.specs.declared.un_op.UnOp.{UnOp}
use Rattle.dsl_syntax.specs.declared.un_op.UnOp.TheVariants as unary
use Rattle.dsl_syntax.specs.declared.bin_op.BinOp.{BinOp}
use Rattle.dsl_syntax.specs.declared.bin_op.BinOp.TheVariants as binary
use Rattle.dsl_syntax.specs.declared.set_op.SetOp.{SetOp}
use Rattle.dsl_syntax.specs.declared.set_op.SetOp.TheVariants as set

abbrev pub unary_text : UnOp → List ℕ
unary_text unary.Not = codes "!"
unary_text unary.Complement = codes "~"
unary_text unary.Plus = codes "+"
unary_text unary.Minus = codes "-"

abbrev pub binary_text : BinOp → List ℕ
binary_text binary.Mul = codes "*"
binary_text binary.Div = codes "/"
binary_text binary.Rem = codes "%"
binary_text binary.Add = codes "+"
binary_text binary.Sub = codes "-"
binary_text binary.ShiftLeft = codes "<<"
binary_text binary.ShiftRight = codes ">>"
binary_text binary.Less = codes "<"
binary_text binary.Greater = codes ">"
binary_text binary.LessEqual = codes "<="
binary_text binary.GreaterEqual = codes ">="
binary_text binary.In = codes "in"
binary_text binary.NotIn = codes "!in"
binary_text binary.Equal = codes "=="
binary_text binary.NotEqual = codes "!="
binary_text binary.BitAnd = codes "&"
binary_text binary.BitXor = codes "^"
binary_text binary.BitOr = codes "|"
binary_text binary.And = codes "&&"
binary_text binary.Or = codes "||"

abbrev pub set_text : SetOp → List ℕ
set_text set.Plain = codes "="
set_text set.Add = codes "+="
set_text set.Sub = codes "-="
set_text set.Mul = codes "*="
set_text set.Div = codes "/="
