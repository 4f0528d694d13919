-- Cells around the one that a walk is inside of, beside the set of their numbers.
use Rattle.std.specs.Prelude.{◌≡◌, ℕ, false, List, [], ◌∷◌, map}
use Rattle.std.specs.Ordering.{nat_cmp}
use Rattle.std.specs.BTreeSet.{BTreeSet, contains}
use Rattle.dsl_value.specs.Walks.{is_open}
use Rattle.dsl_value.specs.Entering.{frame, cell_of}
use Rattle.dsl_value.specs.declared.frame.Frame.{Frame}

-- their numbers
abbrev pub cells_of : List Frame → List ℕ
cells_of fs = map cell_of (map frame fs)

-- no cell is among them twice
abbrev pub AreApart : List Frame → Type 0
AreApart [] = Unit {0}
AreApart (f ∷ fs) = (is_open (cell_of (frame f)) (cells_of fs) ≡ false) × AreApart fs

-- the set has the number of each, and no other
pub record IsNest (fs : List Frame) (cells : BTreeSet ℕ) : Type 0 where
  pub same : (k : ℕ) → contains nat_cmp cells k ≡ is_open k (cells_of fs)
  pub apart : AreApart fs
