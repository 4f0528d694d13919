-- Digits, and times of a clock.
use Rattle.std.specs.Prelude.{ℕ, ◌+◌, ◌-◌, ◌*◌, ◌/◌, ◌%◌, ◌==◌, ◌&&◌, nat_lt, Option, Some, None, List, [], ◌∷◌, ◌++◌, slice_index, option_and_then, if◌then◌else◌}
use Rattle.std.specs.Char.{is_ascii_digit}

-- a number below a hundred, in two digits
abbrev pub two_digits : ℕ → List ℕ
two_digits n = (48 + n / 10) ∷ (48 + n % 10) ∷ []

-- what a clock shows so many minutes after midnight: the hour, a colon and the minute
abbrev pub clock_text : ℕ → List ℕ
clock_text minutes = two_digits (minutes / 60) ++ 58 ∷ two_digits (minutes % 60)

-- The same, read.

-- the number that two digits make
abbrev pub number_of : ℕ → ℕ → Option ℕ
number_of tens ones =
    if is_ascii_digit tens && is_ascii_digit ones then Some ((tens - 48) * 10 + (ones - 48)) else None

-- the minute of the day, where the minutes are fewer than sixty
abbrev pub minute_of : ℕ → ℕ → Option ℕ
minute_of hour minute = if nat_lt minute 60 then Some (hour * 60 + minute) else None

-- the minute of the day that the five bytes from this place on show
unfoldable pub minute_at : List ℕ → ℕ → Option ℕ
minute_at text at =
    if slice_index text (at + 2) == 58
    then option_and_then (λ hour. option_and_then (λ minute. minute_of hour minute) (number_of (slice_index text (at + 3)) (slice_index text (at + 4)))) (number_of (slice_index text at) (slice_index text (at + 1)))
    else None
