-- Until which seconds things rest, with a second for each block of them that none of its own is below.
use Rattle.std.specs.Prelude.{ℕ, ◌*◌, ◌/◌, ◌<◌, ◌≤◌, min, List, [], ◌∷◌, length, take, drop, slice_index_or}

-- the second at a place; 0 behind the last one
abbrev pub second_at : List ℕ → ℕ → ℕ
second_at seconds place = slice_index_or seconds place 0

-- each from one place on and before another rests at a moment
abbrev pub RestFrom : ℕ → ℕ → ℕ → List ℕ → Type 0
RestFrom moment from till seconds = (place : ℕ) → from ≤ place → place < till → place < length seconds → moment < second_at seconds place

-- the least of these seconds and of one more
abbrev pub least_from : ℕ → List ℕ → ℕ
least_from least [] = least
least_from least (s ∷ ss) = least_from (min least s) ss

-- the least second of a block, of which each has 32
abbrev pub least_of : ℕ → List ℕ → ℕ
least_of block seconds = least_from 18_446_744_073_709_551_615 (take 32 (drop (block * 32) seconds))

-- There is a second for each block, and none of its own is below it.
pub record AreLeast (blocks seconds : List ℕ) : Type 0 where
  pub enough : length seconds ≤ length blocks * 32
  pub least : (place : ℕ) → place < length seconds → second_at blocks (place / 32) ≤ second_at seconds place

-- seconds, those of their blocks, and those of blocks of these
abbrev pub AreRests : List ℕ → List ℕ → List ℕ → Type 0
AreRests seconds blocks parts = AreLeast blocks seconds × AreLeast parts blocks
