-- Where numbers stand in a list.
use Rattle.std.specs.Prelude.{◌≡◌, ℕ, suc, List, [], ◌∷◌, nat_eq, Option, Some, None, if◌then◌else◌}
use Rattle.std.specs.HashMap.{HashMap, get_by}
use Rattle.std.specs.Option.{option_or}
use Rattle.depend_graph.specs.declared.positions.Positions.{Positions}

-- the last place at which a number stands, where the first place is this one
abbrev pub last_place : ℕ → ℕ → List ℕ → Option ℕ
last_place n k [] = None
last_place n k (m ∷ ms) = option_or (last_place n (suc k) ms) (if nat_eq m n then Some k else None)

-- a map has the places of all numbers in a list
abbrev pub HasPlaces : {S : Type 0} → HashMap ℕ ℕ S → List ℕ → Type 0
HasPlaces m ns = (n : ℕ) → get_by (nat_eq n) m ≡ last_place n 0 ns

abbrev pub ArePositions : List ℕ → Positions → Type 0
ArePositions ns p = HasPlaces p.by_number ns
