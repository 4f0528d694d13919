-- Orders that have no report yet.
use Rattle.std.specs.Prelude.{ℕ, ◌<◌, ◌≤◌, List, [], ◌∷◌}
use Rattle.run_meaning.specs.Turns.{Outstanding}

-- what clauses see of a book: how many orders were given, and those that have no report yet, in the order in which they were given
pub record Orders : Type 0 where
  pub given : ℕ
  pub outstanding : List Outstanding

-- an order's number, with its checkable
abbrev pub outstanding_of : ℕ × ℕ → Outstanding
outstanding_of kept = record { order = kept.0; checkable = kept.1 }

-- the numbers rise from above this one on, and none is above the last
abbrev pub Rise : ℕ → ℕ → List (ℕ × ℕ) → Type 0
Rise from last [] = Unit {0}
Rise from last (o ∷ os) = (from < o.0) × (o.0 ≤ last) × Rise o.0 last os
