-- How numbers are read: digits, then maybe a point and digits, then maybe a unit.
use Rattle.std.specs.Prelude.{◌≡◌, ℕ, ℤ, pos, negsuc, ◌*◌, ◌/◌, ◌%◌, ◌^◌, ◌==◌, ◌||◌, Option, Some, None, List, [], ◌∷◌, ◌++◌, length, drop, codes, if◌then◌else◌}
use Rattle.std.specs.Char.{is_ascii_digit}
use Rattle.std.specs.List.{prefix_len, take_while}
use Rattle.std.specs.Option.{option_and_then}
use Rattle.std.specs.Str.{bytes_eq}
use Rattle.std.specs.Str.Parse.{AllDigits, IsNumeral, digits_value}
use Rattle.site_base.specs.Numbers.{ranged}

-- how many thousandths one of a unit is; without a unit, one is a thousand
abbrev pub unit_size : List ℕ → Option ℕ
unit_size unit =
    if bytes_eq unit [] || bytes_eq unit (codes "s") then Some 1000
    else if bytes_eq unit (codes "ms") then Some 1
    else if bytes_eq unit (codes "m") then Some (60 * 1000)
    else if bytes_eq unit (codes "h") then Some (60 * 60 * 1000)
    else if bytes_eq unit (codes "d") then Some (24 * 60 * 60 * 1000)
    else None

-- the digits after the point, with the point; nothing if there are none
abbrev pub pointed : List ℕ → List ℕ
pointed [] = []
pointed (d ∷ ds) = 46 ∷ d ∷ ds

-- a text that is these digits, these digits behind a point, and this unit
pub record IsWritten (text whole behind unit : List ℕ) : Type 0 where
  pub spelled : text ≡ whole ++ (pointed behind ++ unit)
  pub digits : IsNumeral 10 whole
  pub more_digits : AllDigits 10 behind

-- a text that stands for so many thousandths: they are, times ten to the number of digits after the point, all the
-- digits as one number, times the unit
abbrev pub Spells : List ℕ → ℤ → Type 0
Spells text (pos n) =
    (whole : List ℕ) × (behind : List ℕ) × (unit : List ℕ) × (size : ℕ) × IsWritten text whole behind unit
    × (unit_size unit ≡ Some size) × (n * 10 ^ length behind ≡ digits_value 10 (whole ++ behind) * size)
Spells text (negsuc n) = ⊥

-- The same, calculated.

-- the digits after the point with which a text begins; none if it begins in another way
abbrev pub digits_behind : List ℕ → List ℕ
digits_behind [] = []
digits_behind (b ∷ bs) = if b == 46 then take_while is_ascii_digit bs else []

-- all the digits as one number, times the unit, over ten for each digit after the point, if that is whole
abbrev pub scaled : List ℕ → List ℕ → ℕ → Option ℤ
scaled whole behind size =
    let product = digits_value 10 (whole ++ behind) * size in
    let parts = 10 ^ length behind in
    if product % parts == 0 then ranged (pos (product / parts)) else None

-- the number that a text stands for
unfoldable pub number_read : List ℕ → Option ℤ
number_read text =
    let whole = take_while is_ascii_digit text in
    let rest = drop (prefix_len is_ascii_digit text) text in
    let behind = digits_behind rest in
    let unit = drop (length (pointed behind)) rest in
    if length whole == 0 then None else option_and_then (λ size. scaled whole behind size) (unit_size unit)
