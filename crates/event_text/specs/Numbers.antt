-- Moments and numbers of a line.
use Rattle.std.specs.Prelude.{ℕ, ◌≡◌, ◌≤◌, ◌==◌, ◌&&◌, nat_le, Bool, List, [], ◌∷◌, length, Option, Some, None, if◌then◌else◌}
use Rattle.std.specs.Char.{is_ascii_digit}
use Rattle.std.specs.List.{list_all}
use Rattle.std.specs.Option.{option_map}
use Rattle.std.specs.Str.Parse.{IsNumeral, digits_value}
use Rattle.event_text.specs.declared.limit.Limit.{Limit}

-- digits alone, one or more and at most so many
pub record IsNumber (most : ℕ) (text : List ℕ) : Type 0 where
  pub digits : IsNumeral 10 text
  pub few : length text ≤ most

-- digits that stand for a number within a limit
pub record IsNumberWithin (l : Limit) (text : List ℕ) (n : ℕ) : Type 0 where
  pub number : IsNumber l.digits text
  pub value : digits_value 10 text ≡ n
  pub within : n ≤ l.most

-- the first texts stand for numbers, one for each limit
abbrev pub AreNumbers : List Limit → List (List ℕ) → List ℕ → Type 0
AreNumbers [] texts [] = Unit {0}
AreNumbers [] texts (n ∷ ns) = ⊥
AreNumbers (l ∷ ls) [] ns = ⊥
AreNumbers (l ∷ ls) (text ∷ texts) [] = ⊥
AreNumbers (l ∷ ls) (text ∷ texts) (n ∷ ns) = IsNumberWithin l text n × AreNumbers ls texts ns

-- of a host's passive result only 0 is up; each other status is taken as 2
abbrev pub host_status : ℕ → ℕ
host_status n = if n == 0 then 0 else 2

-- The same, calculated.
abbrev pub is_number : ℕ → List ℕ → Bool
is_number most text = nat_le 1 (length text) && (nat_le (length text) most && list_all is_ascii_digit text)

abbrev pub is_number_within : Limit → List ℕ → Bool
is_number_within l text = is_number l.digits text && nat_le (digits_value 10 text) l.most

unfoldable pub number_in : Limit → List ℕ → Option ℕ
number_in l text = if is_number_within l text then Some (digits_value 10 text) else None

-- a number before others
abbrev pub before : Option ℕ → Option (List ℕ) → Option (List ℕ)
before None ns = None
before (Some n) ns = option_map (λ more. n ∷ more) ns

abbrev pub numbers_in : List Limit → List (List ℕ) → Option (List ℕ)
numbers_in [] texts = Some []
numbers_in (l ∷ ls) [] = None
numbers_in (l ∷ ls) (text ∷ texts) = before (number_in l text) (numbers_in ls texts)

-- numbers within their limits
abbrev pub AreWithin : List Limit → List ℕ → Type 0
AreWithin [] [] = Unit {0}
AreWithin [] (n ∷ ns) = ⊥
AreWithin (l ∷ ls) [] = ⊥
AreWithin (l ∷ ls) (n ∷ ns) = (n ≤ l.most) × AreWithin ls ns
