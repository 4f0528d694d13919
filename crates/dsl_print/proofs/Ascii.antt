-- Texts in ASCII, as words, signs and names are, are UTF-8.
use Rattle.std.proofs.Common.{◌≡◌, ℕ, zero, suc, ◌<◌, List, [], ◌∷◌, ◌++◌, Bool, true, false, arith}
use Rattle.std.proofs.lemmas.Bool.Decides.{nat_tests}
use Rattle.std.proofs.lemmas.Str.{IsUtf8-from_ascii, IsAscii-append}
use Rattle.std.proofs.lemmas.Str.Ascii.{IsAscii-nil}
use Rattle.std.specs.Char.{is_ascii, is_ascii_digit}
use Rattle.std.specs.List.{list_all}
use Rattle.std.specs.Str.{IsUtf8, IsAscii}
use Rattle.dsl_lexer.specs.Letters.{is_name_byte, is_name_start}
use Rattle.dsl_lexer.specs.Tokens.{is_name, begins_fraction}
use Rattle.dsl_lexer.proofs.Bytes.{both_first, both_second}
use Rattle.dsl_lexer.proofs.StepReads.{name_bytes}

-- a byte below 128 is ASCII
pub byte_ascii : (b : ℕ) → b < 128 → IsAscii (b ∷ [])
byte_ascii b h zero = h
byte_ascii b h (suc i) = omega arith

-- so are those that the test lets through, and those of names
low_byte : (b : ℕ) → is_ascii b ≡ true → b < 128
low_byte b e = grind (arith, nat_tests)

name_byte : (b : ℕ) → is_name_byte b ≡ true → b < 128
name_byte b e = grind (arith, nat_tests)

-- bytes that pass such a test are ASCII
bytes_ascii : (p : ℕ → Bool) → ((b : ℕ) → p b ≡ true → b < 128) → (bs : List ℕ) → list_all p bs ≡ true → IsAscii bs
bytes_ascii p low [] e = IsAscii-nil
bytes_ascii p low (b ∷ bs) e = IsAscii-append (b ∷ []) bs (byte_ascii b (low b (both_first (p b) (list_all p bs) e))) (bytes_ascii p low bs (both_second (p b) (list_all p bs) e))

-- ASCII is UTF-8
pub ascii_utf8 : (bs : List ℕ) → list_all is_ascii bs ≡ true → IsUtf8 bs
ascii_utf8 bs e = IsUtf8-from_ascii bs (bytes_ascii is_ascii low_byte bs e)

-- a name is UTF-8
pub names_utf8 : (n : List ℕ) → is_name n ≡ true → IsUtf8 n
names_utf8 n e = IsUtf8-from_ascii n (bytes_ascii is_name_byte name_byte n (name_bytes n e))

-- a point before a name begins no fraction
pub point_name : (n rest : List ℕ) → is_name n ≡ true → begins_fraction (46 ∷ (n ++ rest)) ≡ false
point_name [] rest h = absurd cc
point_name (b ∷ bs) rest h = no_digit (both_first (is_name_start b) (list_all is_name_byte bs) h)
  where
    no_digit : is_name_start b ≡ true → is_ascii_digit b ≡ false
    no_digit e = grind (arith, nat_tests)
