-- In which order the faults of a walk are told.
use Rattle.std.specs.Prelude.{ℕ, ◌≡◌, ◌≤◌, ◌⊎◌, List, [], ◌∷◌, ◌++◌, Some, Contains, length, slice_get}
use Rattle.dsl_syntax.specs.Syntax.{Statements}
use Rattle.site_base.specs.declared.diag.Diag.{Diag}
use Rattle.site_conf.specs.Findings.{IsTreeOf, IsOwn}
use Rattle.site_conf.specs.Sound.{Grows}
use Rattle.conf_sources.specs.Sources.{Told}
use Rattle.site_conf.specs.Walks.{WalkState, each_inclusion, onward_at}
use Rattle.conf_sources.specs.declared.inclusion.Inclusion.{Inclusion}

-- what stands once these inclusions of a file were followed, where so many may still stand in one another
abbrev pub following : Told → ℕ → ℕ → List ℕ → List Inclusion → WalkState → WalkState
following all left index file is s = each_inclusion all (onward_at all left) left index file is s

-- what is told of an inclusion stands behind all that is told of those before it, and before all that is told of those after it
pub record StandInOrder (all : Told) (left index : ℕ) (file : List ℕ) (before : List Inclusion) (i : Inclusion) (behind : List Inclusion) (s : WalkState) : Type 0 where
  pub of_those_before : Grows s.diags (following all left index file before s).diags
  pub of_it : Grows (following all left index file before s).diags (following all left index file (before ++ i ∷ []) s).diags
  pub of_those_behind : Grows (following all left index file (before ++ i ∷ []) s).diags (following all left index file (before ++ i ∷ behind) s).diags

-- a fault of the file's own was told
pub record IsToldFaulty (s : WalkState) (index : ℕ) (bytes : List ℕ) : Type 0 where
  pub fault : Diag
  pub own : IsOwn index bytes fault
  pub told : Contains s.diags fault

-- the tree of the file is there
pub record IsThere (s : WalkState) (index : ℕ) (bytes : List ℕ) : Type 0 where
  pub tree : Statements
  pub there : slice_get s.trees index ≡ Some tree
  pub of_them : IsTreeOf index bytes tree

-- a file that can be read has its tree, or its fault is told
abbrev pub IsAnswered : WalkState → ℕ → List ℕ → Type 0
IsAnswered s index bytes = length bytes ≤ 4194304 → IsThere s index bytes ⊎ IsToldFaulty s index bytes
