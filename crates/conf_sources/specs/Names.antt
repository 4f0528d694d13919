-- The parts of files' names.
use Rattle.std.specs.Prelude.{ℕ, zero, suc, List, [], ◌∷◌, ◌++◌, ◌==◌, ◌||◌, not, Bool, false, take, drop, if◌then◌else◌}
use Rattle.std.specs.List.{list_any}

-- one byte more in front, which is of the kind or not
abbrev pub through_by : Bool → ℕ → ℕ
through_by c zero = if c then 1 else 0
through_by c (suc n) = suc (suc n)

-- how many bytes there are through the last one of this kind
abbrev pub through_last : (ℕ → Bool) → List ℕ → ℕ
through_last p [] = 0
through_last p (b ∷ bs) = through_by (p b) (through_last p bs)

abbrev pub is_slash : ℕ → Bool
is_slash b = b == 47

abbrev pub is_other : ℕ → Bool
is_other b = not (b == 47)

-- how many bytes a name has through its last `/`
abbrev pub folder_len : List ℕ → ℕ
folder_len name = through_last is_slash name

-- the folder of a name, with its `/`; nothing for a name without one
abbrev pub folder_of : List ℕ → List ℕ
folder_of name = take (folder_len name) name

-- what stands behind it
abbrev pub last_part : List ℕ → List ℕ
last_part name = drop (folder_len name) name

-- it begins at the root of all folders
abbrev pub is_absolute : List ℕ → Bool
is_absolute [] = false
is_absolute (b ∷ bs) = b == 47

-- a name that stands in a file, joined to the folder of that file
abbrev pub joined : List ℕ → List ℕ → List ℕ
joined file name = if is_absolute name then name else folder_of file ++ name

-- how many bytes stand before the `/` at the end
abbrev pub trimmed_len : List ℕ → ℕ
trimmed_len name = through_last is_other name

-- a folder's name without the `/` at its end; the root of all folders is `/`
abbrev pub trimmed : List ℕ → List ℕ
trimmed name = if trimmed_len name == 0 then take 1 name else take (trimmed_len name) name

abbrev pub is_wild : ℕ → Bool
is_wild b = b == 42 || b == 63

-- a `*` or a `?` stands in it
abbrev pub has_wildcard : List ℕ → Bool
has_wildcard part = list_any is_wild part
