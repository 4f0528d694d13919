-- How long texts are that are joined, counted piece by piece.
use Rattle.std.specs.Prelude.{ℕ, ◌+◌, Bool, List, [], ◌∷◌, length, Option, Some, None, is_some}
use Rattle.dsl_value.specs.declared.value.Value.{Value}
use Rattle.dsl_lib.specs.Scalars.{scalar_text}

abbrev pub bytes_in : Option (List ℕ) → ℕ
bytes_in None = 0
bytes_in (Some t) = length t

abbrev pub is_scalar : Value → Bool
is_scalar v = is_some (scalar_text v)

-- the bytes of a scalar's text
abbrev pub scalar_bytes : Value → ℕ
scalar_bytes v = bytes_in (scalar_text v)

-- the bytes of the texts of some scalars, with a separator before each
abbrev pub separated_bytes : List ℕ → List Value → ℕ
separated_bytes separator [] = 0
separated_bytes separator (v ∷ vs) = (length separator + scalar_bytes v) + separated_bytes separator vs
