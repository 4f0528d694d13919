-- What each operator gives.
use Rattle.std.specs.Prelude.{ℕ, ℤ, pos, negsuc, ◌*ℤ◌, ◌^◌, nat_lt, Bool, true, false, not, ◌&&◌, ◌||◌, if◌then◌else◌, List, [], ◌++◌, Option, Some, None, option_map, codes, int_div, int_rem}
use Rattle.std.specs.Int.{w64, int_bit_and, int_bit_or, int_bit_xor, int_bit_not, int_shr}
use Rattle.std.specs.Ordering.{int_cmp, nat_cmp, is_lt, is_gt, is_le, is_ge}
use Rattle.std.specs.Cmp.Lexicographic.{slice_cmp}
use Rattle.std.specs.Option.{option_zip}
use Rattle.std.specs.List.{filter, list_any}
use Rattle.std.specs.declared.cmp.Ordering.{Ordering}
use Rattle.site_base.specs.Numbers.{number_text, ranged, is_zero, sum_of, difference_of, product_of, quotient_of, rest_of}
use Rattle.dsl_syntax.specs.declared.un_op.UnOp.{UnOp}
use Rattle.dsl_syntax.specs.declared.un_op.UnOp.TheVariants as un
use Rattle.dsl_syntax.specs.declared.bin_op.BinOp.{BinOp}
use Rattle.dsl_syntax.specs.declared.bin_op.BinOp.TheVariants as bin
use Rattle.dsl_value.specs.Pairs.{Pairs, dict_of}
use Rattle.dsl_value.specs.Contents.{PlainCell}
use Rattle.dsl_value.specs.Contents as cell
use Rattle.dsl_value.specs.Equality.{equal_within}
use Rattle.dsl_value.specs.declared.value.Value.{Value}
use Rattle.dsl_value.specs.declared.value.Value.TheVariants as value
use Rattle.dsl_ops.specs.declared.op_fault.OpFault.TheVariants.{WrongType, Overflow, DivZero}
use Rattle.dsl_ops.specs.Operands.{PlainOperand, null, boolean, number, string, array, dictionary, function, operand, is_true}
use Rattle.dsl_ops.specs.Outcomes.{Outcome, gives, makes, refuses, or_overflow, or_wrong_type}

-- ---- texts

abbrev pub boolean_text : Bool → List ℕ
boolean_text true = codes "true"
boolean_text false = codes "false"

-- strings, numbers and booleans have a text
abbrev pub has_text : PlainOperand → Bool
has_text (string t) = true
has_text (number n) = true
has_text (boolean b) = true
has_text o = false

abbrev pub text_of : PlainOperand → List ℕ
text_of (string t) = t
text_of (number n) = number_text n
text_of (boolean b) = boolean_text b
text_of o = []

abbrev pub is_string : PlainOperand → Bool
is_string (string t) = true
is_string o = false

-- two that have a text, at least one of them a string
abbrev pub are_joined : PlainOperand → PlainOperand → Bool
are_joined a b = (is_string a || is_string b) && (has_text a && has_text b)

abbrev pub joined : PlainOperand → PlainOperand → Outcome
joined a b = if are_joined a b then gives (value.Str (text_of a ++ text_of b)) else refuses WrongType

-- ---- `+`

-- what null leaves of the other operand: an array or a dictionary is copied
abbrev pub kept : PlainOperand → Outcome
kept null = gives value.Null
kept (boolean b) = gives (value.Bool b)
kept (number n) = gives (value.Number n)
kept (string t) = gives (value.Str t)
kept (array vs) = makes (cell.array vs)
kept (dictionary ps) = makes (cell.dict ps)
kept (function k) = refuses WrongType

-- the pairs of both, the right one's at the keys that both have
abbrev pub merged : Pairs → Pairs → Pairs
merged left right = dict_of right left

abbrev pub sum : PlainOperand → PlainOperand → Outcome
sum (number a) (number b) = or_overflow (sum_of a b)
sum null b = kept b
sum a null = kept a
sum (array a) (array b) = makes (cell.array (a ++ b))
sum (dictionary a) (dictionary b) = makes (cell.dict (merged a b))
sum a b = joined a b

-- ---- `-`, `*`, `/`, `%`

-- two numbers; null beside a number counts as 0
abbrev pub numbers : PlainOperand → PlainOperand → Option (ℤ × ℤ)
numbers (number a) (number b) = Some (a, b)
numbers null (number b) = Some (pos 0, b)
numbers (number a) null = Some (a, pos 0)
numbers a b = None

abbrev pub of_both : (ℤ → ℤ → Outcome) → Option (ℤ × ℤ) → Outcome
of_both f (Some p) = f p.0 p.1
of_both f None = refuses WrongType

-- the left elements that equal none of the right
abbrev pub without : (Value → Value → Bool) → List Value → List Value → List Value
without same right left = filter (λ v. not (list_any (λ w. same w v) right)) left

abbrev pub number_difference : PlainOperand → PlainOperand → Outcome
number_difference a b = of_both (λ x y. or_overflow (difference_of x y)) (numbers a b)

abbrev pub difference : (Value → Value → Bool) → PlainOperand → PlainOperand → Outcome
difference same (array a) (array b) = makes (cell.array (without same b a))
difference same a b = number_difference a b

abbrev pub product : PlainOperand → PlainOperand → Outcome
product a b = of_both (λ x y. or_overflow (product_of x y)) (numbers a b)

abbrev pub quotient : PlainOperand → PlainOperand → Outcome
quotient a b = of_both (λ x y. if is_zero y then refuses DivZero else or_overflow (quotient_of x y)) (numbers a b)

abbrev pub rest : PlainOperand → PlainOperand → Outcome
rest a b = of_both (λ x y. if is_zero y then refuses DivZero else or_overflow (rest_of x y)) (numbers a b)

-- ---- `<<`, `>>`, `&`, `^`, `|`

-- the whole number that so many thousandths are
abbrev pub whole_part : ℤ → Option ℤ
whole_part n = if is_zero (int_rem n (pos 1000)) then Some (int_div n (pos 1000)) else None

abbrev pub whole : PlainOperand → Option ℤ
whole (number n) = whole_part n
whole o = None

abbrev pub wholes : PlainOperand → PlainOperand → Option (ℤ × ℤ)
wholes a b = option_zip (whole a) (whole b)

-- a whole number, in thousandths
abbrev pub thousandths_of : ℤ → Option ℤ
thousandths_of z = ranged (z *ℤ pos 1000)

-- how far a shift goes
abbrev pub places : ℤ → Option ℕ
places (pos n) = if nat_lt n 63 then Some n else None
places (negsuc n) = None

abbrev pub shifted : (ℕ → Outcome) → Option ℕ → Outcome
shifted f (Some n) = f n
shifted f None = refuses Overflow

abbrev pub left_shift : PlainOperand → PlainOperand → Outcome
left_shift a b = of_both (λ x y. shifted (λ n. or_overflow (thousandths_of (x *ℤ pos (2 ^ n)))) (places y)) (wholes a b)

abbrev pub right_shift : PlainOperand → PlainOperand → Outcome
right_shift a b = of_both (λ x y. shifted (λ n. or_overflow (thousandths_of (int_shr x n))) (places y)) (wholes a b)

-- of the two's complement in 64 bits
abbrev pub bits : (ℤ → ℤ → ℤ) → PlainOperand → PlainOperand → Outcome
bits f a b = of_both (λ x y. or_overflow (thousandths_of (f x y))) (wholes a b)

-- ---- `<`, `>`, `<=`, `>=`

-- numbers by size and strings by their bytes; null beside them counts as 0 and as the empty string
abbrev pub compared : PlainOperand → PlainOperand → Option Ordering
compared (number a) (number b) = Some (int_cmp a b)
compared null (number b) = Some (int_cmp (pos 0) b)
compared (number a) null = Some (int_cmp a (pos 0))
compared (string a) (string b) = Some (slice_cmp nat_cmp a b)
compared null (string b) = Some (slice_cmp nat_cmp [] b)
compared (string a) null = Some (slice_cmp nat_cmp a [])
compared a b = None

-- ---- `in`, `!in`

-- whether some element is equal; null has none
abbrev pub has : (Value → Bool) → PlainOperand → Option Bool
has same (array vs) = Some (list_any same vs)
has same null = Some false
has same o = None

-- ---- all of them

-- a hundred levels of nesting are compared
abbrev pub same_in : List PlainCell → Value → Value → Bool
same_in cells = equal_within 100 cells

abbrev pub binary_outcome : List PlainCell → BinOp → Value → Value → Outcome
binary_outcome cells bin.Mul l r = product (operand cells l) (operand cells r)
binary_outcome cells bin.Div l r = quotient (operand cells l) (operand cells r)
binary_outcome cells bin.Rem l r = rest (operand cells l) (operand cells r)
binary_outcome cells bin.Add l r = sum (operand cells l) (operand cells r)
binary_outcome cells bin.Sub l r = difference (same_in cells) (operand cells l) (operand cells r)
binary_outcome cells bin.ShiftLeft l r = left_shift (operand cells l) (operand cells r)
binary_outcome cells bin.ShiftRight l r = right_shift (operand cells l) (operand cells r)
binary_outcome cells bin.Less l r = or_wrong_type (option_map is_lt (compared (operand cells l) (operand cells r)))
binary_outcome cells bin.Greater l r = or_wrong_type (option_map is_gt (compared (operand cells l) (operand cells r)))
binary_outcome cells bin.LessEqual l r = or_wrong_type (option_map is_le (compared (operand cells l) (operand cells r)))
binary_outcome cells bin.GreaterEqual l r = or_wrong_type (option_map is_ge (compared (operand cells l) (operand cells r)))
binary_outcome cells bin.In l r = or_wrong_type (has (same_in cells l) (operand cells r))
binary_outcome cells bin.NotIn l r = or_wrong_type (option_map not (has (same_in cells l) (operand cells r)))
binary_outcome cells bin.Equal l r = gives (value.Bool (same_in cells l r))
binary_outcome cells bin.NotEqual l r = gives (value.Bool (not (same_in cells l r)))
binary_outcome cells bin.BitAnd l r = bits (int_bit_and w64) (operand cells l) (operand cells r)
binary_outcome cells bin.BitXor l r = bits (int_bit_xor w64) (operand cells l) (operand cells r)
binary_outcome cells bin.BitOr l r = bits (int_bit_or w64) (operand cells l) (operand cells r)
binary_outcome cells bin.And l r = gives (if is_true (operand cells l) then r else l)
binary_outcome cells bin.Or l r = gives (if is_true (operand cells l) then l else r)

-- a number as it is
abbrev pub itself : PlainOperand → Outcome
itself (number n) = gives (value.Number n)
itself o = refuses WrongType

abbrev pub negation : PlainOperand → Outcome
negation (number n) = or_overflow (difference_of (pos 0) n)
negation o = refuses WrongType

abbrev pub of_whole : (ℤ → Outcome) → Option ℤ → Outcome
of_whole f (Some n) = f n
of_whole f None = refuses WrongType

abbrev pub complement : PlainOperand → Outcome
complement o = of_whole (λ n. or_overflow (thousandths_of (int_bit_not w64 n))) (whole o)

abbrev pub unary_outcome : List PlainCell → UnOp → Value → Outcome
unary_outcome cells un.Not v = gives (value.Bool (not (is_true (operand cells v))))
unary_outcome cells un.Complement v = complement (operand cells v)
unary_outcome cells un.Plus v = itself (operand cells v)
unary_outcome cells un.Minus v = negation (operand cells v)
