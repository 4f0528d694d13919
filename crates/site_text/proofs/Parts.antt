-- Lists of parts that aren't empty.
use Rattle.std.proofs.Common.{◌≡◌, ◌≢◌, ℕ, List, [], ◌∷◌, length, map, false, refl}
use Rattle.site_text.specs.Entries.{list_text, parts_text}

pub joined : {X : Type 0} (f : X → List ℕ) (xs : List X) → length xs ≢ 0 → list_text (map f xs) ≡ parts_text false (map f xs)
joined f [] some = absurd (some refl)
joined f (x ∷ xs) some = refl
