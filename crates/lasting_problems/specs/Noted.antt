-- What is noted of checkables.
use Rattle.std.specs.Prelude.{ℕ, suc, ◌+◌, List, [], ◌∷◌, Option, Some, None, nat_lt, not, if◌then◌else◌}

-- of those from this index on, the moments of those that have one
abbrev pub noted_from : ℕ → List (Option ℕ) → List (ℕ × ℕ)
noted_from k [] = []
noted_from k (None ∷ ms) = noted_from (suc k) ms
noted_from k (Some m ∷ ms) = (k, m) ∷ noted_from (suc k) ms

abbrev pub noted : List (Option ℕ) → List (ℕ × ℕ)
noted ms = noted_from 0 ms

-- those whose moment is a minute ago
abbrev pub late_in : ℕ → List (ℕ × ℕ) → List ℕ
late_in moment [] = []
late_in moment (p ∷ ps) = if not (nat_lt moment (p.1 + 60)) then p.0 ∷ late_in moment ps else late_in moment ps
