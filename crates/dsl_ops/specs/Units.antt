-- What operators cost.
use Rattle.std.specs.Prelude.{ℕ, ◌+◌, Bool, List, ◌++◌, length, if◌then◌else◌}
use Rattle.dsl_syntax.specs.declared.bin_op.BinOp.{BinOp}
use Rattle.dsl_syntax.specs.declared.bin_op.BinOp.TheVariants as bin
use Rattle.dsl_value.specs.Contents.{PlainCell}
use Rattle.dsl_value.specs.declared.value.Value.{Value}
use Rattle.dsl_ops.specs.Operands.{PlainOperand, null, boolean, number, string, array, dictionary, function, operand}
use Rattle.dsl_ops.specs.Table.{are_joined, text_of, merged, without, same_in}

-- a copy of an array or a dictionary: one for the cell, and one for each element or pair
abbrev pub copy_units : PlainOperand → ℕ
copy_units (array vs) = 1 + length vs
copy_units (dictionary ps) = 1 + length ps
copy_units o = 0

-- a text that is made of two: its bytes
abbrev pub text_units : PlainOperand → PlainOperand → ℕ
text_units a b = if are_joined a b then length (text_of a ++ text_of b) else 0

-- null leaves a text as it was, which costs nothing
abbrev pub sum_units : PlainOperand → PlainOperand → ℕ
sum_units null b = copy_units b
sum_units a null = copy_units a
sum_units (array a) (array b) = 1 + length (a ++ b)
sum_units (dictionary a) (dictionary b) = 1 + length (merged a b)
sum_units a b = text_units a b

abbrev pub difference_units : (Value → Value → Bool) → PlainOperand → PlainOperand → ℕ
difference_units same (array a) (array b) = 1 + length (without same b a)
difference_units same a b = 0

-- only `+` and `-` make texts, arrays and dictionaries
abbrev pub binary_units : List PlainCell → BinOp → Value → Value → ℕ
binary_units cells bin.Add l r = sum_units (operand cells l) (operand cells r)
binary_units cells bin.Sub l r = difference_units (same_in cells) (operand cells l) (operand cells r)
binary_units cells op l r = 0
