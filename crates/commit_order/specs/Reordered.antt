-- Lists of the same elements in another order.
use Rattle.std.specs.Prelude.{List, [], ◌∷◌}

-- two neighbours change places, as often as it takes
pub data Reordered {A : Type 0} : List A → List A → Type 0 where
  empty : Reordered [] []
  behind : {xs ys : List A} (a : A) → Reordered xs ys → Reordered (a ∷ xs) (a ∷ ys)
  swapped : (a b : A) (xs : List A) → Reordered (a ∷ b ∷ xs) (b ∷ a ∷ xs)
  again : {xs ys zs : List A} → Reordered xs ys → Reordered ys zs → Reordered xs zs
