-- What operators see of a value.
use Rattle.std.specs.Prelude.{ℕ, ℤ, pos, Bool, false, true, not, ◌==◌, List, length, T}
use Rattle.std.specs.Ordering.{int_eq}
use Rattle.std.specs.List.{AllByRecursion}
use Rattle.dsl_value.specs.Pairs.{Pairs, is_sorted}
use Rattle.dsl_value.specs.Contents.{PlainCell, cell_at}
use Rattle.dsl_value.specs.Contents as cell
use Rattle.dsl_value.specs.Whole.{Names, NamesAll}
use Rattle.dsl_value.specs.declared.value.Value.{Value}
use Rattle.dsl_value.specs.declared.value.Value.TheVariants as value
use Rattle.dsl_ops.specs.declared.operand.Operand.{Operand}
use Rattle.dsl_ops.specs.declared.operand.Operand.TheVariants as operands

-- a value, with what its cell contains
pub data PlainOperand : Type 0 where
  null : PlainOperand
  boolean : Bool → PlainOperand
  number : ℤ → PlainOperand
  string : List ℕ → PlainOperand
  array : List Value → PlainOperand
  dictionary : Pairs → PlainOperand
  function : ℕ → PlainOperand

abbrev pub content_of : PlainCell → PlainOperand
content_of (cell.array vs) = array vs
content_of (cell.dict ps) = dictionary ps

abbrev pub operand : List PlainCell → Value → PlainOperand
operand cells value.Null = null
operand cells (value.Bool b) = boolean b
operand cells (value.Number n) = number n
operand cells (value.Str t) = string t
operand cells (value.Ref k) = content_of (cell_at cells k)
operand cells (value.Func k) = function k

abbrev pub plain : Operand → PlainOperand
plain operands.Null = null
plain (operands.Bool b) = boolean b
plain (operands.Number n) = number n
plain (operands.Str t) = string t.now
plain (operands.Array vs) = array vs.now
plain (operands.Dict ps) = dictionary ps
plain (operands.Func k) = function k

-- null, false, 0, and the empty string, array and dictionary are false, and all else is true
abbrev pub is_true : PlainOperand → Bool
is_true null = false
is_true (boolean b) = b
is_true (number n) = not (int_eq n (pos 0))
is_true (string t) = not (length t == 0)
is_true (array vs) = not (length vs == 0)
is_true (dictionary ps) = not (length ps == 0)
is_true (function k) = true

-- what lies in it names cells and functions of the store
abbrev pub Stands : ℕ → ℕ → PlainOperand → Type 0
Stands cells functions null = Unit {0}
Stands cells functions (boolean b) = Unit {0}
Stands cells functions (number n) = Unit {0}
Stands cells functions (string t) = Unit {0}
Stands cells functions (array vs) = AllByRecursion (Names cells functions) vs
Stands cells functions (dictionary ps) = NamesAll cells functions ps
Stands cells functions (function k) = Unit {0}

-- a dictionary's keys rise
abbrev pub IsInOrder : PlainOperand → Type 0
IsInOrder null = Unit {0}
IsInOrder (boolean b) = Unit {0}
IsInOrder (number n) = Unit {0}
IsInOrder (string t) = Unit {0}
IsInOrder (array vs) = Unit {0}
IsInOrder (dictionary ps) = T (is_sorted ps)
IsInOrder (function k) = Unit {0}
