-- Which day a key of time ranges names.
use Rattle.std.specs.Prelude.{◌≡◌, ℕ, ℤ, pos, ◌+◌, ◌*◌, ◌/◌, ◌%◌, ◌==◌, ◌&&◌, nat_le, Bool, Option, Some, None, List, [], ◌∷◌, ◌++◌, length, slice_index, slice_get, option_map, option_and_then, codes, if◌then◌else◌}
use Rattle.std.specs.Str.{bytes_eq}
use Rattle.site_base.specs.declared.day.Day.{Day}
use Rattle.site_base.specs.declared.day.Day.TheVariants.{Weekday, Date}
use Rattle.jiff_core.specs.Calendar.{IsCivilDate, days_from_civil, days_in_month}
use Rattle.time_range.specs.Clock.{two_digits, number_of}

-- the days of the week, from Monday on
abbrev pub weekdays : List (List ℕ)
weekdays =
    codes "monday" ∷ codes "tuesday" ∷ codes "wednesday" ∷ codes "thursday" ∷ codes "friday" ∷ codes "saturday"
    ∷ codes "sunday" ∷ []

-- a date in ten characters: the year in four digits, the month and the day in two, with hyphens between
abbrev pub date_text : ℕ → ℕ → ℕ → List ℕ
date_text year month day =
    two_digits (year / 100) ++ two_digits (year % 100) ++ 45 ∷ two_digits month ++ 45 ∷ two_digits day

-- A key names a day: a day of the week by its name, with Monday as the first, and a date that the calendar has by its
-- text, where the date is taken as the number of days since 1970-01-01.
abbrev pub Names : List ℕ → Day → Type 0
Names key (Weekday number) = slice_get weekdays number ≡ Some key
Names key (Date days) =
    (year : ℕ) × (month : ℕ) × (day : ℕ) × (key ≡ date_text year month day) × IsCivilDate (pos year) month day
    × (days ≡ days_from_civil (pos year) month day)

-- The same, calculated.

abbrev pub weekday_named : List ℕ → Option ℕ
weekday_named key =
    if bytes_eq key (codes "monday") then Some 0
    else if bytes_eq key (codes "tuesday") then Some 1
    else if bytes_eq key (codes "wednesday") then Some 2
    else if bytes_eq key (codes "thursday") then Some 3
    else if bytes_eq key (codes "friday") then Some 4
    else if bytes_eq key (codes "saturday") then Some 5
    else if bytes_eq key (codes "sunday") then Some 6
    else None

-- whether a year below 10,000 has this day
abbrev pub is_lawful : ℕ → ℕ → ℕ → Bool
is_lawful year month day =
    nat_le 1 month && nat_le month 12 && nat_le 1 day && nat_le day (days_in_month (pos year) month)

abbrev pub lawful_day : ℕ → ℕ → ℕ → Option ℤ
lawful_day year month day =
    if is_lawful year month day then Some (days_from_civil (pos year) month day) else None

unfoldable pub date_written : List ℕ → Option ℤ
date_written key =
    if (length key == 10) && (slice_index key 4 == 45) && (slice_index key 7 == 45)
    then option_and_then (λ century. option_and_then (λ year. option_and_then (λ month. option_and_then (λ day. lawful_day (century * 100 + year) month day) (number_of (slice_index key 8) (slice_index key 9))) (number_of (slice_index key 5) (slice_index key 6))) (number_of (slice_index key 2) (slice_index key 3))) (number_of (slice_index key 0) (slice_index key 1))
    else None

-- the day of a week by its number, and else the date
abbrev pub day_or : Option ℕ → Option ℤ → Option Day
day_or (Some number) date = Some (Weekday number)
day_or None date = option_map Date date

abbrev pub day_of : List ℕ → Option Day
day_of key = day_or (weekday_named key) (date_written key)
