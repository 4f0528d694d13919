-- The functions of single values: lengths, texts, numbers and truth.
use Rattle.std.specs.Prelude.{ℕ, ℤ, pos, ◌*◌, ◌-◌, ◌==◌, Bool, true, false, List, [], ◌∷◌, length, slice_index, Option, Some, None, if◌then◌else◌}
use Rattle.std.specs.Char.{is_ascii_digit}
use Rattle.site_base.specs.Numbers.{number_text, difference_of}
use Rattle.site_base.specs.Reading.{number_read}
use Rattle.dsl_value.specs.Contents.{Contents, PlainCell, array, dict, cell_at}
use Rattle.dsl_value.specs.declared.value.Value.{Value}
use Rattle.dsl_value.specs.declared.value.Value.TheVariants as value
use Rattle.dsl_lib.specs.Answers.{Answer, gives, counted, typed}
use Rattle.dsl_lib.specs.Arguments.{one}
use Rattle.dsl_ops.specs.Operands.{operand, is_true}
use Rattle.dsl_ops.specs.Table.{boolean_text}

-- a whole number, as a value
abbrev pub whole : ℕ → Value
whole n = value.Number (pos (1000 * n))

-- elements or pairs
abbrev pub size_of_cell : PlainCell → ℕ
size_of_cell (array vs) = length vs
size_of_cell (dict ps) = length ps

-- bytes, elements or pairs; null has none
abbrev pub size_of : List PlainCell → Value → Option ℕ
size_of cells value.Null = Some 0
size_of cells (value.Str t) = Some (length t)
size_of cells (value.Ref k) = Some (size_of_cell (cell_at cells k))
size_of cells (value.Bool b) = None
size_of cells (value.Number n) = None
size_of cells (value.Func k) = None

abbrev pub len : Contents → List Value → Answer
len s args = counted (one args) (λ v. typed (size_of s.cells v) (λ n. gives (whole n)))

-- the text of a string, number or boolean
abbrev pub scalar_text : Value → Option (List ℕ)
scalar_text (value.Str t) = Some t
scalar_text (value.Number n) = Some (number_text n)
scalar_text (value.Bool b) = Some (boolean_text b)
scalar_text _ = None

-- and of null, which has the empty one
abbrev pub string_text : Value → Option (List ℕ)
string_text value.Null = Some []
string_text v = scalar_text v

abbrev pub string : List Value → Answer
string args = counted (one args) (λ v. typed (string_text v) (λ t. gives (value.Str t)))

-- a number without a unit ends in a digit
abbrev pub unsigned_read : List ℕ → Option ℤ
unsigned_read t = if is_ascii_digit (slice_index t (length t - 1)) then number_read t else None

abbrev pub negated : Option ℤ → Option ℤ
negated None = None
negated (Some n) = difference_of (pos 0) n

-- the number that a text spells, with a `-` before it or none
abbrev pub signed_read : List ℕ → Option ℤ
signed_read [] = None
signed_read (b ∷ bs) = if b == 45 then negated (unsigned_read bs) else unsigned_read (b ∷ bs)

abbrev pub bool_number : Bool → ℤ
bool_number true = pos 1000
bool_number false = pos 0

abbrev pub number_of : Value → Option ℤ
number_of (value.Number n) = Some n
number_of (value.Bool b) = Some (bool_number b)
number_of (value.Str t) = signed_read t
number_of _ = None

abbrev pub number : List Value → Answer
number args = counted (one args) (λ v. typed (number_of v) (λ n. gives (value.Number n)))

abbrev pub bool : Contents → List Value → Answer
bool s args = counted (one args) (λ v. gives (value.Bool (is_true (operand s.cells v))))
