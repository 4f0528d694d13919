-- What is told of files, and how faults are counted.
use Rattle.std.specs.Prelude.{ℕ, ◌≡◌, ◌<◌, ◌^◌, ◌-◌, ◌==◌, ◌⊎◌, ◌↔◌, List, [], ◌∷◌, ◌++◌, Bool, false, not, length, slice_get, Option, Some, None, IfSome, IsTrue, Contains, map, nat_eq, if◌then◌else◌}
use Rattle.std.specs.List.{starts_with}
use Rattle.std.specs.List.Sorted.{IsStrictlySortedBy}
use Rattle.std.specs.Cmp.Lexicographic.{slice_cmp}
use Rattle.std.specs.Ordering.{nat_cmp}
use Rattle.std.specs.Str.{bytes_eq}

-- a count of faults has risen; one that stands at the greatest number counts as risen
abbrev pub Rose : ℕ → ℕ → Type 0
Rose old new = (old < new) ⊎ (new ≡ 2 ^ 64 - 1)

-- the bytes of the first file of that name
abbrev pub find_file : List ℕ → List (List ℕ × List ℕ) → Option (List ℕ)
find_file name [] = None
find_file name (f ∷ fs) = if bytes_eq f.0 name then Some f.1 else find_file name fs

-- where the files are told, what was read is what is there
abbrev pub ReadsFile : List ℕ → Option (List (List ℕ × List ℕ)) → Option (List ℕ) → Type 0
ReadsFile name told found = IfSome told (λ files. found ≡ find_file name files)

-- it ends, and not in `/`
abbrev pub ends_open : Option ℕ → Bool
ends_open None = false
ends_open (Some b) = not (b == 47)

-- how the names below a folder begin: its own with a `/` at the end, and nothing for the folder without a name, in which the program runs
abbrev pub folder_prefix : List ℕ → List ℕ
folder_prefix dir = if ends_open (slice_get dir (length dir - 1)) then dir ++ 47 ∷ [] else dir

-- a name stands below a folder; below the folder without a name stand the names that don't begin with `/`
abbrev pub is_below : List ℕ → List ℕ → Bool
is_below [] name = not (starts_with nat_eq name (47 ∷ []))
is_below (b ∷ bs) name = starts_with nat_eq name (folder_prefix (b ∷ bs))

abbrev pub name_of : List ℕ × List ℕ → List ℕ
name_of f = f.0

-- the names of all files below a folder, each once, in byte order
pub record IsListingOf (dir : List ℕ) (files : List (List ℕ × List ℕ)) (names : List (List ℕ)) : Type 0 where
  pub ordered : IsStrictlySortedBy (slice_cmp nat_cmp) names
  pub members : (n : List ℕ) → Contains names n ↔ (Contains (map name_of files) n × IsTrue (is_below dir n))

-- where the files are told, what was listed is what is there
abbrev pub ListsNames : List ℕ → Option (List (List ℕ × List ℕ)) → List (List ℕ) → Type 0
ListsNames dir told names = IfSome told (λ files. IsListingOf dir files names)
