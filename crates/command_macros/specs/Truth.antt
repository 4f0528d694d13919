-- Which values of `set_if` keep an argument.
use Rattle.std.specs.Prelude.{ℕ, ℤ, pos, List, [], ◌∷◌, length, slice_index, ◌-◌, ◌==◌, ◌||◌, Bool, true, false, not, Option, Some, None, codes, if◌then◌else◌}
use Rattle.std.specs.Char.{is_ascii_digit}
use Rattle.std.specs.Str.{bytes_eq}
use Rattle.site_base.specs.Data.{Data, null, boolean, number, string, list, dict}
use Rattle.site_base.specs.Numbers.{is_zero}
use Rattle.site_base.specs.Reading.{number_read}
use Rattle.command_macros.specs.Made.{Made, made, missing}
use Rattle.command_macros.specs.Values.{value_made}

-- the amount that a text stands for; without a unit it ends in a digit
abbrev pub amount_read : List ℕ → Option ℤ
amount_read text = if is_ascii_digit (slice_index text (length text - 1)) then number_read text else None

abbrev pub is_other_than_zero : Option ℤ → Bool
is_other_than_zero None = false
is_other_than_zero (Some n) = not (is_zero n)

-- a number other than 0, with a `-` before it or none
abbrev pub is_signed_amount : List ℕ → Bool
is_signed_amount [] = false
is_signed_amount (b ∷ bs) = if b == 45 then is_other_than_zero (amount_read bs) else is_other_than_zero (amount_read (b ∷ bs))

-- `true`, or such a number
abbrev pub is_true_text : List ℕ → Bool
is_true_text text = bytes_eq text (codes "true") || is_signed_amount text

-- a macro that is missing is as good as false
abbrev pub is_true_made : Made → Bool
is_true_made (made text) = is_true_text text
is_true_made (missing name) = false

-- a value, where `text` is what is made of texts
abbrev pub is_true_value : (List ℕ → Made) → Data → Bool
is_true_value text null = false
is_true_value text (boolean b) = b
is_true_value text (number n) = not (is_zero n)
is_true_value text (string t) = is_true_made (value_made text (made []) (string t))
is_true_value text (list ds) = is_true_made (value_made text (made []) (list ds))
is_true_value text (dict ps) = false

-- without a value an argument is kept
abbrev pub is_kept : (List ℕ → Made) → Option Data → Bool
is_kept text None = true
is_kept text (Some d) = is_true_value text d
