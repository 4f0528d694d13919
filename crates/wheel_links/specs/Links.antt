-- The links of cells, and what a change of a ring does to them.
use Rattle.std.specs.Prelude.{◌≡◌, ◌==◌, ℕ, ◌<◌, List, length, slice_index_or, if◌then◌else◌}
use Rattle.wheel_links.specs.declared.links.Link.{Link}

-- the neighbours of a cell that exists
abbrev pub link_at : List Link → ℕ → Link
link_at links cell = slice_index_or links cell (record { before = 0; after = 0 })

abbrev pub before_at : List Link → ℕ → ℕ
before_at links cell = (link_at links cell).before

abbrev pub after_at : List Link → ℕ → ℕ
after_at links cell = (link_at links cell).after

-- each cell is its own neighbour on both sides
abbrev pub AreAlone : List Link → Type 0
AreAlone links = (cell : ℕ) → cell < length links → link_at links cell ≡ record { before = cell; after = cell }

-- the neighbours of the cell have become each other's, and all else is as it was
pub record IsUnlinked (old new : List Link) (cell : ℕ) : Type 0 where
  pub after : (x : ℕ) → after_at new x ≡ (if x == before_at old cell then after_at old cell else after_at old x)
  pub before : (x : ℕ) → before_at new x ≡ (if x == after_at old cell then before_at old cell else before_at old x)

-- the cell stands between what was the last of the ring and the ring's head
pub record IsAppended (old new : List Link) (head cell : ℕ) : Type 0 where
  pub after : (x : ℕ) → after_at new x ≡ (if x == before_at old head then cell else if x == cell then head else after_at old x)
  pub before : (x : ℕ) → before_at new x ≡ (if x == head then cell else if x == cell then before_at old head else before_at old x)
