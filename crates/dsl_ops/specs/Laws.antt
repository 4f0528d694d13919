-- What is true of new arrays and dictionaries, and of shifts.
use Rattle.std.specs.Prelude.{◌≡◌, ℕ, ℤ, pos, ◌+ℤ◌, ◌*ℤ◌, ◌<◌, Bool, true, false, List, [], ◌∷◌, T}
use Rattle.std.specs.List.{AllByRecursion, Any}
use Rattle.std.specs.Option.{option_or}
use Rattle.dsl_value.specs.Pairs.{Pairs, find, is_sorted}
use Rattle.dsl_value.specs.declared.value.Value.{Value}

-- the value of each key is the right one's, if that has the key, and else the left one's; the keys rise
pub record IsMerged (left right pairs : Pairs) : Type 0 where
  pub values : (key : List ℕ) → find key pairs ≡ option_or (find key right) (find key left)
  pub sorted : T (is_sorted pairs)

-- a value equals some element of the list
abbrev pub EqualsSome : (Value → Value → Bool) → List Value → Value → Type 0
EqualsSome same ws v = Any (λ w. same w v ≡ true) ws

abbrev pub EqualsNone : (Value → Value → Bool) → List Value → Value → Type 0
EqualsNone same ws v = AllByRecursion (λ w. same w v ≡ false) ws

-- a list's elements without those that equal some element of another, in their order
pub data IsWithout (same : Value → Value → Bool) (right : List Value) : List Value → List Value → Type 0 where
  ends : IsWithout same right [] []
  stays : {v : Value} {left rest : List Value} → EqualsNone same right v → IsWithout same right left rest → IsWithout same right (v ∷ left) (v ∷ rest)
  goes : {v : Value} {left rest : List Value} → EqualsSome same right v → IsWithout same right left rest → IsWithout same right (v ∷ left) rest

-- a number is so often the divisor, and what is left is below the divisor and not negative
pub record IsRoundedDown (a : ℤ) (divisor : ℕ) (quotient : ℤ) : Type 0 where
  pub rest : ℕ
  pub below : rest < divisor
  pub all : a ≡ (quotient *ℤ pos divisor) +ℤ pos rest
