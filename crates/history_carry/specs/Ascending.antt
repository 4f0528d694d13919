-- Things in ascending order of a number.
use Rattle.std.specs.Prelude.{ℕ, List, [], ◌∷◌, nat_lt, if◌then◌else◌}

-- a thing goes before the first of these whose number isn't below its own
abbrev pub put : {A : Type 0} → (A → ℕ) → A → List A → List A
put n a [] = a ∷ []
put n a (b ∷ bs) = if nat_lt (n b) (n a) then b ∷ put n a bs else a ∷ b ∷ bs

-- things by their numbers; those of one number stay in their order
abbrev pub ascending : {A : Type 0} → (A → ℕ) → List A → List A
ascending n [] = []
ascending n (a ∷ more) = put n a (ascending n more)
