-- Numbers of 64 bits, read from the front.
use Rattle.std.specs.Prelude.{ℕ, nat_lt, Bool, List, drop, Option, Some, None, if◌then◌else◌}
use Rattle.std.specs.Char.{is_ascii_digit}
use Rattle.std.specs.List.{take_while, prefix_len}
use Rattle.std.specs.Str.Parse.{digits_value}
use Rattle.site_text.specs.ScriptReading.{Read, got, bad, is_decimal}

-- one more than the greatest number
abbrev pub numbers : ℕ
numbers = 18446744073709551616

-- the number that digits are the decimal of
abbrev pub whole_value : List ℕ → Option ℕ
whole_value digits = if is_decimal 20 digits then (if nat_lt (digits_value 10 digits) numbers then Some (digits_value 10 digits) else None) else None

abbrev pub whole_of : Option ℕ → List ℕ → Read ℕ
whole_of None rest = bad
whole_of (Some n) rest = got n rest

unfoldable pub whole_at : List ℕ → Read ℕ
whole_at bytes = whole_of (whole_value (take_while is_ascii_digit bytes)) (drop (prefix_len is_ascii_digit bytes) bytes)
