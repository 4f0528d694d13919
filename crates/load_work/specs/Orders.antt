-- The order of the walk, as the code goes through it.
use Rattle.std.specs.Prelude.{◌≡◌, ℕ, ◌<◌, List, [], ◌∷◌, length, take, drop, Option, Some, None}
use Rattle.eval_meaning.specs.States.{State}
use Rattle.eval_meaning.specs.Files.{with_order}
use Rattle.load_work.specs.declared.order.Around.{Around}

abbrev pub next_number : List ℕ → Option ℕ
next_number [] = None
next_number (k ∷ order) = Some k

abbrev pub order_after : List ℕ → List ℕ
order_after [] = []
order_after (k ∷ order) = order

-- what is left of an order around the part of a file
abbrev pub around_order : Around → List ℕ
around_order a = drop a.at a.order.items

-- the part of the next file was begun, if there is one
abbrev pub Begins : List ℕ → State → State → Option (ℕ × Around) → Type 0
Begins (k ∷ n ∷ order) old new (Some p) = (p.0 ≡ k) × (around_order p.1 ≡ drop n order) × (new ≡ with_order (take n order) old)
Begins (k ∷ n ∷ order) old new None = ⊥
Begins (k ∷ []) old new (Some p) = ⊥
Begins (k ∷ []) old new None = new ≡ old
Begins [] old new (Some p) = ⊥
Begins [] old new None = new ≡ old

-- the next file of an order from a place on, if there is one
abbrev pub IsNextFile : List ℕ → ℕ → Option (ℕ × ℕ × ℕ) → Type 0
IsNextFile order at (Some p) = drop at order ≡ p.0 ∷ p.1 ∷ drop p.2 order
IsNextFile order at None = length (drop at order) < 2
