-- The order of a walk over files. It is a flat list of numbers: the root's index and the root's part. The part of a file begins with its
-- length. Then it has for each of the file's inclusions how many files that names, and for each of these its index and its own part.
use Rattle.std.specs.Prelude.{ℕ, zero, suc, ◌≡◌, List, [], ◌∷◌, ◌++◌, Bool, true, false, Option, Some, None, length, slice_get, if◌then◌else◌}
use Rattle.dsl_syntax.specs.Syntax.{statement, Statements, no_statements, more_statements, StatementKind, include, include_library, include_all}

abbrev pub is_inclusion : StatementKind → Bool
is_inclusion (include name at) = true
is_inclusion (include_library name at) = true
is_inclusion (include_all dir pattern at) = true
is_inclusion k = false

-- how many of these statements include files
abbrev pub inclusion_count : Statements → ℕ
inclusion_count no_statements = 0
inclusion_count (more_statements (statement p k) ss) = if is_inclusion k then suc (inclusion_count ss) else inclusion_count ss

-- so many pieces, one after another
abbrev pub AreMany : (List ℕ → Type 0) → ℕ → List ℕ → Type 0
AreMany Piece zero order = order ≡ []
AreMany Piece (suc n) order = (piece : List ℕ) × (rest : List ℕ) × (order ≡ piece ++ rest) × Piece piece × AreMany Piece n rest

-- the index of a file, and its part
abbrev pub IsFile : (ℕ → List ℕ → Type 0) → List ℕ → Type 0
IsFile Part [] = ⊥
IsFile Part (index ∷ part) = Part index part

-- how many files an inclusion names, and these
abbrev pub IsInclusion : (ℕ → List ℕ → Type 0) → List ℕ → Type 0
IsInclusion Part [] = ⊥
IsInclusion Part (n ∷ files) = AreMany (IsFile Part) n files

-- the inclusions among the statements of a file that has a tree
abbrev pub AreInclusions : (ℕ → List ℕ → Type 0) → Option Statements → List ℕ → Type 0
AreInclusions Part None order = ⊥
AreInclusions Part (Some tree) order = AreMany (IsInclusion Part) (inclusion_count tree) order

-- how long it is, and the inclusions of the file
abbrev pub IsPartBy : (ℕ → List ℕ → Type 0) → Option Statements → List ℕ → Type 0
IsPartBy Part tree [] = ⊥
IsPartBy Part tree (n ∷ order) = (n ≡ length order) × AreInclusions Part tree order

-- the part of the file with this index, where files may stand so deep in one another
abbrev pub IsPart : List Statements → ℕ → ℕ → List ℕ → Type 0
IsPart trees zero index order = ⊥
IsPart trees (suc depth) index order = IsPartBy (IsPart trees depth) (slice_get trees index) order

-- an order of files with these trees; 50 inclusions may stand in one another below the root
abbrev pub IsOrder : List Statements → List ℕ → Type 0
IsOrder trees order = IsFile (IsPart trees 51) order
