-- Checkables that are cleared once all their parents are, so that nothing stands above itself among them.
use Rattle.std.specs.Prelude.{◌≡◌, ◌<◌, ℕ, suc, Bool, true, false, List, [], ◌∷◌, All, length, slice_index, slice_index_or, if◌then◌else◌}
use Rattle.site_model.specs.PlainSite.{PlainSite}
use Rattle.run_meaning.specs.Turns.{of_index}
use Rattle.depend_graph.specs.declared.clearing.Climb.{Climb}
use Rattle.depend_graph.specs.Parents.{AreParents, IsAbove}

abbrev pub is_cleared : List Bool → ℕ → Bool
is_cleared cleared c = slice_index_or cleared c false

-- there is a flag for each, and none of those that are cleared stands above itself
pub record AreCleared (parents : List (List ℕ)) (cleared : List Bool) : Type 0 where
  pub many : length cleared ≡ length parents
  pub free : (s : PlainSite) → AreParents s parents → (c : ℕ) → is_cleared cleared c ≡ true → ¬ IsAbove s c c

-- the first so many of these are cleared
abbrev pub AreClearedUpTo : List ℕ → List Bool → ℕ → Type 0
AreClearedUpTo ps cleared n = (k : ℕ) → k < n → k < length ps → is_cleared cleared (slice_index ps k) ≡ true

pub record IsClimb (parents : List (List ℕ)) (cleared : List Bool) (climb : Climb) : Type 0 where
  pub inside : climb.checkable < length parents
  pub passed : AreClearedUpTo (of_index climb.checkable parents) cleared climb.next

-- how far the clearing has come
pub record IsClearing (parents : List (List ℕ)) (met cleared : List Bool) (begun : List Climb) : Type 0 where
  pub many : length met ≡ length parents
  pub free : AreCleared parents cleared
  pub climbs : All (IsClimb parents cleared) begun

-- how many weren't met
abbrev pub left : List Bool → ℕ
left [] = 0
left (m ∷ ms) = if m then left ms else suc (left ms)
