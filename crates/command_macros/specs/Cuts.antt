-- Where a text is cut.
use Rattle.std.specs.Prelude.{ℕ, ◌≢◌, List, [], ◌∷◌}

-- no such mark stands in a text
abbrev pub Lacks : ℕ → List ℕ → Type 0
Lacks mark [] = Unit {0}
Lacks mark (b ∷ bs) = (b ≢ mark) × Lacks mark bs
