-- What stands inside a string, read byte by byte.
use Rattle.std.specs.Prelude.{ℕ, ◌<◌, ◌≤◌, zero, suc, ◌+◌, ◌*◌, ◌-◌, Bool, List, [], ◌∷◌, ◌++◌, ◌==◌, nat_lt, drop, length, Option, Some, None, if◌then◌else◌}
use Rattle.dsl_lexer.specs.Letters.{is_octal, escape_value}
use Rattle.dsl_lexer.specs.declared.unit.Unit.{Unit as Written}
use Rattle.dsl_lexer.specs.declared.unit.Unit.TheVariants as unit

-- the value of three octal digits, which is at most 127
abbrev pub octal_byte : ℕ → Written
octal_byte v = if nat_lt v 128 then unit.Byte v 4 else unit.Bad

-- behind two octal digits
abbrev pub octal_third : ℕ → List ℕ → Written
octal_third v [] = unit.Byte v 3
octal_third v (c ∷ cs) = if is_octal c then octal_byte (v * 8 + (c - 48)) else unit.Byte v 3

-- behind one octal digit
abbrev pub octal_second : ℕ → List ℕ → Written
octal_second v [] = unit.Byte v 2
octal_second v (b ∷ bs) = if is_octal b then octal_third (v * 8 + (b - 48)) bs else unit.Byte v 2

unfoldable pub octal_of : List ℕ → Written
octal_of [] = unit.Bad
octal_of (a ∷ bs) = if is_octal a then octal_second (a - 48) bs else unit.Bad

-- behind a backslash
abbrev pub escape_step : Option ℕ → List ℕ → Written
escape_step None bytes = octal_of bytes
escape_step (Some b) bytes = unit.Byte b 2

unfoldable pub escape_of : List ℕ → Written
escape_of [] = octal_of []
escape_of (e ∷ bs) = escape_step (escape_value e) (e ∷ bs)

-- the byte that ends a string
abbrev pub is_quote : ℕ → Bool
is_quote b = b == 34

-- what the bytes inside a string begin with
unfoldable pub unit_of : List ℕ → Written
unit_of [] = unit.Bad
unit_of (b ∷ bs) = if b == 10 then unit.Bad else if b == 34 then unit.Quote else if b == 92 then escape_of bs else unit.Byte b 1

-- it is written with some of so many bytes
abbrev pub IsWithin : Written → ℕ → Type 0
IsWithin (unit.Byte b n) most = (0 < n) × (n ≤ most)
IsWithin u most = Unit {0}

-- a string behind its opening quote: the text that it stands for and how many bytes it takes, the closing quote too
pub data Body : Type 0 where
  closed : List ℕ → ℕ → Body
  broken : Body

-- the text of a string with this front
abbrev pub behind_front : List ℕ → ℕ → Body → Body
behind_front front n (closed text m) = closed (front ++ text) (n + m)
behind_front front n broken = broken

abbrev pub body_step : (List ℕ → Body) → List ℕ → Written → Body
body_step more bytes (unit.Byte b n) = behind_front (b ∷ []) n (more (drop n bytes))
body_step more bytes unit.Quote = closed [] 1
body_step more bytes unit.Bad = broken

-- with a bound on the characters
abbrev pub body_within : ℕ → List ℕ → Body
body_within zero bytes = broken
body_within (suc most) bytes = body_step (body_within most) bytes (unit_of bytes)

abbrev pub body_of : List ℕ → Body
body_of bytes = body_within (length bytes) bytes
