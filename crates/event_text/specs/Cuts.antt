-- Where a text is cut.
use Rattle.std.specs.Prelude.{ℕ, ◌≡◌, ◌≤◌, List, [], ◌∷◌, ◌++◌, length, take, drop, if◌then◌else◌}
use Rattle.std.specs.Str.{bytes_eq}

-- the mark stands behind this front, and nowhere before
pub record IsCut (mark text front behind : List ℕ) : Type 0 where
  pub whole : text ≡ front ++ (mark ++ behind)
  pub first : (f b : List ℕ) → text ≡ f ++ (mark ++ b) → length front ≤ length f

-- the mark stands nowhere
abbrev pub IsUncut : List ℕ → List ℕ → Type 0
IsUncut mark text = (f b : List ℕ) → text ≡ f ++ (mark ++ b) → ⊥

-- The same, calculated.
pub data Cut : Type 0 where
  uncut : Cut
  cut : List ℕ → List ℕ → Cut

abbrev pub with_first : ℕ → Cut → Cut
with_first b uncut = uncut
with_first b (cut front behind) = cut (b ∷ front) behind

abbrev pub cut_at : List ℕ → List ℕ → Cut
cut_at mark [] = uncut
cut_at mark (b ∷ bs) =
    if bytes_eq mark (take (length mark) (b ∷ bs)) then cut [] (drop (length mark) (b ∷ bs)) else with_first b (cut_at mark bs)
