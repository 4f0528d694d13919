-- The library's definitions, in other words.
use Rattle.std.specs.Prelude.{◌≡◌, ℕ, true, false, List, [], ◌∷◌, ◌++◌}
use Rattle.std.specs.List.{AllByRecursion}
use Rattle.std.specs.Ordering.{is_gt}
use Rattle.std.specs.declared.cmp.Ordering.{Ordering}
use Rattle.dsl_value.specs.Contents.{PlainCell}
use Rattle.dsl_value.specs.Equality.{equal_within}
use Rattle.dsl_value.specs.declared.value.Value.{Value}
use Rattle.dsl_lib.specs.Arrays.{has_equal}
use Rattle.dsl_lib.specs.Texts.{begins_with}

-- no element is greater than one behind it
abbrev pub Rises : {A : Type 0} → (A → A → Ordering) → List A → Type 0
Rises cmp [] = Unit {0}
Rises cmp (x ∷ xs) = AllByRecursion (λ y. is_gt (cmp x y) ≡ false) xs × Rises cmp xs

-- no element is equal to one behind it
abbrev pub AreApart : List PlainCell → List Value → Type 0
AreApart cells [] = Unit {0}
AreApart cells (x ∷ xs) = AllByRecursion (λ y. equal_within 100 cells x y ≡ false) xs × AreApart cells xs

-- the elements of a list in their order, each unless one that was taken before it is equal to it
pub data IsDistinct (cells : List PlainCell) : List Value → List Value → List Value → Type 0 where
  ends : {taken : List Value} → IsDistinct cells taken [] []
  takes : {taken vs ws : List Value} {v : Value} → has_equal cells taken v ≡ false → IsDistinct cells (taken ++ v ∷ []) vs ws → IsDistinct cells taken (v ∷ vs) (v ∷ ws)
  passes : {taken vs ws : List Value} {v : Value} → has_equal cells taken v ≡ true → IsDistinct cells taken vs ws → IsDistinct cells taken (v ∷ vs) ws

-- a text with each part replaced, from left to right
pub data IsReplaced (part by : List ℕ) : List ℕ → List ℕ → Type 0 where
  ends : IsReplaced part by [] []
  replaces : {t rest out : List ℕ} → t ≡ part ++ rest → IsReplaced part by rest out → IsReplaced part by t (by ++ out)
  keeps : {b : ℕ} {bs out : List ℕ} → begins_with (b ∷ bs) part ≡ false → IsReplaced part by bs out → IsReplaced part by (b ∷ bs) (b ∷ out)
