-- Distinct names in order.
use Rattle.std.specs.Prelude.{◌≡◌, ℕ, List, [], ◌∷◌, ◌++◌, Option, Some, Contains, MatchOption, position, slice_get, if◌then◌else◌}
use Rattle.std.specs.List.{list_any}
use Rattle.std.specs.Str.{bytes_eq}

-- the place of a name
abbrev pub place_of : List ℕ → List (List ℕ) → Option ℕ
place_of name ns = position (bytes_eq name) ns

-- what a place says: the name stands there, and without a place it stands nowhere
abbrev pub IsPlaceOf : List ℕ → List (List ℕ) → Option ℕ → Type 0
IsPlaceOf name ns place = MatchOption place (¬ Contains ns name) (λ k. slice_get ns k ≡ Some name)

-- the names with one more, which is added where it isn't there
abbrev pub with_name : List ℕ → List (List ℕ) → List (List ℕ)
with_name name ns = if list_any (bytes_eq name) ns then ns else ns ++ name ∷ []
