-- The names of the files below a folder.
use Rattle.std.specs.Prelude.{ℕ, List, [], ◌∷◌, filter, map}
use Rattle.std.specs.Cmp.Lexicographic.{slice_cmp}
use Rattle.std.specs.Ordering.{nat_cmp}
use Rattle.std.specs.declared.cmp.Ordering.{Ordering}
use Rattle.std.specs.declared.cmp.Ordering.TheVariants.{Less, Equal, Greater}
use Rattle.site_edge.specs.Told.{is_below, name_of}

abbrev pub placed_by : Ordering → List ℕ → List ℕ → List (List ℕ) → List (List ℕ) → List (List ℕ)
placed_by Less n m ms more = n ∷ m ∷ ms
placed_by Equal n m ms more = m ∷ ms
placed_by Greater n m ms more = m ∷ more

-- a name among names in byte order, at its place, once
abbrev pub placed : List ℕ → List (List ℕ) → List (List ℕ)
placed n [] = n ∷ []
placed n (m ∷ ms) = placed_by (slice_cmp nat_cmp n m) n m ms (placed n ms)

-- names in byte order, each once
abbrev pub ordered : List (List ℕ) → List (List ℕ)
ordered [] = []
ordered (n ∷ ns) = placed n (ordered ns)

-- the names of all files below a folder, in byte order, each once
unfoldable pub listing : List ℕ → List (List ℕ × List ℕ) → List (List ℕ)
listing dir files = ordered (filter (is_below dir) (map name_of files))
