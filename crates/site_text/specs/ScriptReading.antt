-- What a script tells, read from its front.
use Rattle.std.specs.Prelude.{ℕ, ◌≡◌, ◌+◌, ◌-◌, ◌*◌, ◌==◌, ◌&&◌, ◌||◌, nat_le, nat_lt, not, min, zero, suc, Bool, false, List, [], ◌∷◌, ◌++◌, length, take, drop, codes, Option, Some, None, Result, Ok, Err, if◌then◌else◌}
use Rattle.std.specs.Char.{is_ascii_digit}
use Rattle.std.specs.List.{take_while, prefix_len}
use Rattle.std.specs.Str.{bytes_eq}
use Rattle.std.specs.Str.Parse.{digits_value}
use Rattle.site_edge.specs.declared.turn.Turn.{Turn}
use Rattle.site_text.specs.Scripts.{Answer, told, bad_line, with_line}
use Rattle.site_text.specs.declared.script_error.ScriptError.{ScriptError}
use Rattle.site_text.specs.declared.script_error.ScriptError.TheVariants as error
use Rattle.site_text.specs.declared.script_line.ScriptLine.{ScriptLine}
use Rattle.site_text.specs.declared.script_line.ScriptLine.TheVariants as line

-- a value at the front of some bytes, and what stands behind it
pub data Read (A : Type 0) : Type 0 where
  got : A → List ℕ → Read A
  bad : Read A

-- behind this byte
abbrev pub byte_at : ℕ → List ℕ → Option (List ℕ)
byte_at b [] = None
byte_at b (x ∷ xs) = if x == b then Some xs else None

-- Quoted texts.

-- a byte that stands for itself, once it is known to be no backslash
abbrev pub is_plain : ℕ → Bool
is_plain b = nat_le 32 b && (not (b == 34) && not (b == 127))

abbrev pub is_octal : ℕ → Bool
is_octal b = nat_le 48 b && nat_le b 55

-- a byte that is written by its octal digits
abbrev pub is_written_in_octal : ℕ → Bool
is_written_in_octal b = if b == 10 || (b == 9 || b == 13) then false else nat_lt b 32 || b == 127

abbrev pub octal_sum : ℕ → ℕ → ℕ → ℕ
octal_sum x y z = (x - 48) * 64 + (y - 48) * 8 + (z - 48)

abbrev pub octal_byte : ℕ → ℕ → ℕ → Option ℕ
octal_byte x y z =
    if is_octal x && (is_octal y && (is_octal z && nat_le x 49)) then (if is_written_in_octal (octal_sum x y z) then Some (octal_sum x y z) else None) else None

abbrev pub with_rest : List ℕ → Option ℕ → Read ℕ
with_rest rest None = bad
with_rest rest (Some b) = got b rest

abbrev pub octal_at : List ℕ → Read ℕ
octal_at (x ∷ y ∷ z ∷ rest) = with_rest rest (octal_byte x y z)
octal_at bytes = bad

-- behind a backslash
unfoldable pub escape_at : List ℕ → Read ℕ
escape_at [] = bad
escape_at (e ∷ rest) =
    if e == 34 then got 34 rest
    else if e == 92 then got 92 rest
    else if e == 110 then got 10 rest
    else if e == 116 then got 9 rest
    else if e == 114 then got 13 rest
    else octal_at (e ∷ rest)

-- a byte as it stands between quotes
unfoldable pub unit_at : List ℕ → Read ℕ
unit_at [] = bad
unit_at (b ∷ rest) = if b == 92 then escape_at rest else if is_plain b then got b rest else bad

abbrev pub with_front : List ℕ → Read (List ℕ) → Read (List ℕ)
with_front front (got text rest) = got (front ++ text) rest
with_front front bad = bad

abbrev pub body_step : (List ℕ → Read (List ℕ)) → Read ℕ → Read (List ℕ)
body_step more (got b rest) = with_front (b ∷ []) (more rest)
body_step more bad = bad

-- behind the opening quote, with a bound on the bytes
abbrev pub body_within : ℕ → List ℕ → Read (List ℕ)
body_within most [] = bad
body_within zero (b ∷ bs) = bad
body_within (suc most) (b ∷ bs) = if b == 34 then got [] bs else body_step (body_within most) (unit_at (b ∷ bs))

abbrev pub body_of : List ℕ → Read (List ℕ)
body_of bytes = body_within (length bytes) bytes

unfoldable pub quoted_at : List ℕ → Read (List ℕ)
quoted_at [] = bad
quoted_at (b ∷ bs) = if b == 34 then body_of bs else bad

-- Numbers.

-- digits that are the decimal of a number, at most so many
abbrev pub is_decimal : ℕ → List ℕ → Bool
is_decimal most [] = false
is_decimal most (d ∷ []) = nat_le 1 most
is_decimal most (d ∷ e ∷ ds) = not (d == 48) && nat_le (length (d ∷ e ∷ ds)) most

abbrev pub decimal_of : ℕ → List ℕ → List ℕ → Read ℕ
decimal_of most digits rest = if is_decimal most digits then got (digits_value 10 digits) rest else bad

unfoldable pub decimal_at : ℕ → List ℕ → Read ℕ
decimal_at most bytes = decimal_of most (take_while is_ascii_digit bytes) (drop (prefix_len is_ascii_digit bytes) bytes)

-- a number and the byte behind it
abbrev pub ended_by : ℕ → Option (List ℕ) → Read ℕ
ended_by n None = bad
ended_by n (Some rest) = got n rest

abbrev pub number_end : ℕ → Read ℕ → Read ℕ
number_end b bad = bad
number_end b (got n rest) = ended_by n (byte_at b rest)

unfoldable pub number_at : ℕ → ℕ → List ℕ → Read ℕ
number_at b most bytes = number_end b (decimal_at most bytes)

-- Lines.

abbrev pub turn_of : Read ℕ → Read ScriptLine
turn_of bad = bad
turn_of (got moment rest) = if nat_le moment 99999999999 then got (line.Turn moment) rest else bad

unfoldable pub turn_at : List ℕ → Read ScriptLine
turn_at bytes = turn_of (number_at 10 11 bytes)

abbrev pub text_ended_by : List ℕ → Option (List ℕ) → Read (List ℕ)
text_ended_by text None = bad
text_ended_by text (Some rest) = got text rest

abbrev pub text_end : Read (List ℕ) → Read (List ℕ)
text_end bad = bad
text_end (got text rest) = text_ended_by text (byte_at 10 rest)

-- a quoted text and the newline behind it
unfoldable pub quoted_line_at : List ℕ → Read (List ℕ)
quoted_line_at bytes = text_end (quoted_at bytes)

abbrev pub command_of : Read (List ℕ) → Read ScriptLine
command_of bad = bad
command_of (got text rest) = got (line.Line text) rest

unfoldable pub command_at : List ℕ → Read ScriptLine
command_at bytes = command_of (quoted_line_at bytes)

abbrev pub report_of : ℕ → ℕ → Read (List ℕ) → Read ScriptLine
report_of order status bad = bad
report_of order status (got text rest) = got (line.Report (record { order = order; status = status; output = text })) rest

-- behind the order's number
abbrev pub with_status : ℕ → Read ℕ → Read ScriptLine
with_status order bad = bad
with_status order (got status rest) = if nat_le status 255 then report_of order status (quoted_line_at rest) else bad

abbrev pub with_order : Read ℕ → Read ScriptLine
with_order bad = bad
with_order (got order rest) = with_status order (number_at 32 3 rest)

unfoldable pub report_at : List ℕ → Read ScriptLine
report_at bytes = with_order (number_at 32 19 bytes)

-- whether some bytes begin with a word
abbrev pub begins : List ℕ → List ℕ → Bool
begins word bytes = bytes_eq (take (length word) bytes) word

-- a line with its newline
unfoldable pub line_at : List ℕ → Read ScriptLine
line_at bytes =
    if begins (codes "turn ") bytes then turn_at (drop 5 bytes)
    else if begins (codes "report ") bytes then report_at (drop 7 bytes)
    else if begins (codes "line ") bytes then command_at (drop 5 bytes)
    else bad

-- Scripts.

-- lines are counted up to the greatest number of 32 bits
abbrev pub next : ℕ → ℕ
next n = min (n + 1) 4294967295

abbrev pub behind_line : (List Turn → ℕ → List ℕ → Answer) → ℕ → List ℕ → Option (List Turn) → Answer
behind_line more n rest None = bad_line n
behind_line more n rest (Some turns) = more turns n rest

abbrev pub script_step : (List Turn → ℕ → List ℕ → Answer) → List Turn → ℕ → Read ScriptLine → Answer
script_step more turns n bad = bad_line n
script_step more turns n (got l rest) = behind_line more n rest (with_line turns l)

-- behind lines that make these turns, of which there are so many; with a bound on the bytes
abbrev pub script_within : ℕ → List Turn → ℕ → List ℕ → Answer
script_within most turns n [] = told turns
script_within zero turns n (b ∷ bs) = bad_line n
script_within (suc most) turns n (b ∷ bs) = script_step (script_within most) turns (next n) (line_at (b ∷ bs))

abbrev pub script_from : List Turn → ℕ → List ℕ → Answer
script_from turns n bytes = script_within (length bytes) turns n bytes

-- a call gave this answer, unless memory ran out
abbrev pub Gives : Result (List Turn) ScriptError → Answer → Type 0
Gives (Ok turns) a = a ≡ told turns
Gives (Err (error.BadScript n)) a = a ≡ bad_line n
Gives (Err error.OutOfMemory) a = Unit {0}

-- what holds of the answer that a call gave, unless memory ran out
abbrev pub Tells : (Answer → Type 0) → Result (List Turn) ScriptError → Type 0
Tells P (Ok turns) = P (told turns)
Tells P (Err (error.BadScript n)) = P (bad_line n)
Tells P (Err error.OutOfMemory) = Unit {0}
