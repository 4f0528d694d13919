-- What a walk reads.
use Rattle.std.specs.Prelude.{ℕ, ◌≡◌, List, [], ◌∷◌, ◌++◌, Bool, true, false, Option, length, if◌then◌else◌}
use Rattle.std.specs.Bool.{beq}
use Rattle.std.specs.List.{IsDistinct}
use Rattle.std.specs.Str.{bytes_eq}
use Rattle.site_edge.specs.Lists.{Adds}
use Rattle.conf_sources.specs.Sources.{file_name}
use Rattle.site_conf.specs.Walks.{WalkState}
use Rattle.conf_sources.specs.declared.source.Source.{Source}
use Rattle.site_conf.specs.declared.walk_answer.WalkAnswer.{WalkAnswer}
use Rattle.site_conf.specs.declared.walk_answer.WalkAnswer.TheVariants as answer

-- the names of the files among these
abbrev pub file_names : List Source → List (List ℕ)
file_names [] = []
file_names (s ∷ ss) = file_name s ++ file_names ss

-- since then the files that were met were read, each as often as it stands among them, in their order, and nothing else
pub record HaveRead (before : Option (List (List ℕ))) (s : WalkState) (now : Option (List (List ℕ))) : Type 0 where
  pub added : Adds (file_names s.sources) before now

-- the names with this flag
abbrev pub flagged_as : Bool → List (List ℕ) → List Bool → List (List ℕ)
flagged_as b [] flags = []
flagged_as b (n ∷ names) [] = []
flagged_as b (n ∷ names) (c ∷ flags) = if beq b c then n ∷ flagged_as b names flags else flagged_as b names flags

-- of these names, of which so many are parts of the library, no two files are the same and no two parts, and each file was read once and
-- nothing else
pub record IsReadOnce (old new : Option (List (List ℕ))) (names : List (List ℕ)) (library : List Bool) : Type 0 where
  pub known : length library ≡ length names
  pub files : IsDistinct bytes_eq (flagged_as false names library)
  pub parts : IsDistinct bytes_eq (flagged_as true names library)
  pub added : Adds (flagged_as false names library) old new

-- each file that is named was read once, in that order, and nothing else
abbrev pub ReadsOnce : Option (List (List ℕ)) → Option (List (List ℕ)) → WalkAnswer → Type 0
ReadsOnce old new (answer.Walked w) = IsReadOnce old new w.names w.library.items
ReadsOnce old new (answer.Diags files list) = (library : List Bool) × IsReadOnce old new files library
