-- The classes of bytes.
use Rattle.std.specs.Prelude.{ℕ, List, [], ◌∷◌, ◌==◌, ◌||◌, ◌&&◌, nat_le, not, Bool, true, false, Option, Some, None, if◌then◌else◌}
use Rattle.std.specs.Char.{is_ascii_alphabetic, is_ascii_alphanumeric}

-- space, tab and carriage return
abbrev pub is_blank : ℕ → Bool
is_blank b = b == 32 || b == 9 || b == 13

-- a word or an identifier begins so
abbrev pub is_name_start : ℕ → Bool
is_name_start b = is_ascii_alphabetic b || b == 95

-- and goes on so
abbrev pub is_name_byte : ℕ → Bool
is_name_byte b = is_ascii_alphanumeric b || b == 95

-- a text that begins with such a byte
abbrev pub follows : (ℕ → Bool) → List ℕ → Bool
follows p [] = false
follows p (b ∷ bs) = p b

-- a text that begins with a letter, a digit or `_`
abbrev pub goes_on : List ℕ → Bool
goes_on text = follows is_name_byte text

-- no other byte stands first in a text
abbrev pub starts_with : ℕ → List ℕ → Bool
starts_with b [] = true
starts_with b (c ∷ cs) = c == b

-- a byte of the same line
abbrev pub is_inner : ℕ → Bool
is_inner b = not (b == 10)

abbrev pub is_octal : ℕ → Bool
is_octal b = nat_le 48 b && nat_le b 55

-- the byte that a letter stands for behind a backslash
abbrev pub escape_value : ℕ → Option ℕ
escape_value e =
    if e == 34 then Some 34
    else if e == 92 then Some 92
    else if e == 116 then Some 9
    else if e == 114 then Some 13
    else if e == 110 then Some 10
    else if e == 98 then Some 8
    else if e == 102 then Some 12
    else None
