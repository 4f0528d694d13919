-- The slots of the last twenty results.
use Rattle.std.specs.Prelude.{ℕ, zero, suc, Bool, false, List, [], ◌∷◌}

-- the newest so many, filled up with results that change nothing
abbrev pub padded : ℕ → List Bool → List Bool
padded zero changes = []
padded (suc n) [] = false ∷ padded n []
padded (suc n) (c ∷ changes) = c ∷ padded n changes
