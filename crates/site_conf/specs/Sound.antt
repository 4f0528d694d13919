-- What holds at each moment of the walk, whatever the files hold.
use Rattle.std.specs.Prelude.{ℕ, suc, ◌≡◌, ◌≢◌, ◌<◌, ◌≤◌, ◌+◌, List, [], ◌∷◌, ◌++◌, All, map, true, Option, Some, None, IfSome, length, ⊤}
use Rattle.std.specs.List.{IsDistinct}
use Rattle.dsl_syntax.specs.Syntax.{Statements}
use Rattle.dsl_syntax.specs.SyntaxView.{file_view}
use Rattle.site_base.specs.declared.diag.Diag.{Diag}
use Rattle.site_base.specs.declared.place.Place.{Place}
use Rattle.walk_order.specs.Orders.{IsPart, IsFile, IsInclusion, AreMany, IsOrder}
use Rattle.conf_sources.specs.Inclusions.{inclusions as inclusions_of}
use Rattle.conf_sources.specs.Sources.{source_at, same_source, full_name, is_library}
use Rattle.site_conf.specs.Walks.{WalkState}
use Rattle.conf_sources.specs.declared.holding.Holding.TheVariants.{Broken}
use Rattle.conf_sources.specs.declared.source.Source.{Source}
use Rattle.site_conf.specs.declared.walk_answer.WalkAnswer.{WalkAnswer}
use Rattle.site_conf.specs.declared.walk_answer.WalkAnswer.TheVariants as answer

-- each diagnostic stands in one of so many files
abbrev pub AreIn : ℕ → List Diag → Type 0
AreIn n ds = All (λ d. d.place.file < n) ds

-- no fault was told
abbrev pub IsClear : WalkState → Type 0
IsClear s = s.diags ≡ []

-- Each file that was met has a name, a holding, a tree and its inclusions, and it is known if it is of the library; no two are the same.
-- The diagnostics stand in these files. Where a file is broken, or the walk has ended, there are some.
pub record IsSound (s : WalkState) : Type 0 where
  pub library : length s.library ≡ length s.names
  pub holdings : length s.holdings ≡ length s.names
  pub trees : length s.trees ≡ length s.names
  pub places : AreIn (length s.names) s.diags
  pub named : s.names ≡ map full_name s.sources
  pub flagged : s.library ≡ map is_library s.sources
  pub listed : s.inclusions ≡ map inclusions_of s.trees
  pub distinct : IsDistinct same_source s.sources
  pub unbroken : IsClear s → All (λ h. h ≢ Broken) s.holdings
  pub ended : s.ended ≡ true → IsClear s → ⊥

-- there are more of them at the end, or none
abbrev pub Grows : {A : Type 0} → List A → List A → Type 0
Grows {A} xs ys = (more : List A) × (ys ≡ xs ++ more)

-- a later moment, at which no file and no fault is gone
pub record IsLater (s t : WalkState) : Type 0 where
  pub sound : IsSound t
  pub more : length s.names ≤ length t.names
  pub trees : Grows s.trees t.trees
  pub clear : IsClear t → IsClear s

-- a later moment with one file more
pub record IsOneMore (s t : WalkState) : Type 0 where
  pub later : IsLater s t
  pub one : length t.names ≡ length s.names + 1
  pub order : t.order ≡ s.order

-- if there is a file to be followed, its index was added to the order
abbrev pub IsAdded : WalkState → WalkState → Option ℕ → Type 0
IsAdded s t None = ⊥
IsAdded s t (Some index) = t.order ≡ s.order ++ index ∷ []

-- a later moment, and the file that is to be followed was met; if there is none, a fault was told
pub record IsFound (s t : WalkState) (found : Option ℕ) : Type 0 where
  pub later : IsLater s t
  pub met : IfSome found (λ k. k < length t.names)
  pub added : IsClear t → IsAdded s t found

-- where a file was met before, the place is in a file that was met; else it may be in the file itself
pub record MayStand (at : Place) (source : Source) (s : WalkState) : Type 0 where
  pub old : (k : ℕ) → source_at source s.sources ≡ Some k → at.file < length s.names
  pub new : at.file ≤ length s.names

-- What stretches of an order are, where so many inclusions may still stand in one another.
pub data Stretch : Type 0 where
  -- of the file with this index, its part
  a_part : ℕ → ℕ → Stretch
  a_file : ℕ → Stretch
  -- so many
  some_files : ℕ → ℕ → Stretch
  an_inclusion : ℕ → Stretch
  -- so many
  some_inclusions : ℕ → ℕ → Stretch

abbrev pub IsStretch : List Statements → Stretch → List ℕ → Type 0
IsStretch trees (a_part left index) order = IsPart trees (suc left) index order
IsStretch trees (a_file left) order = IsFile (IsPart trees left) order
IsStretch trees (some_files left n) order = AreMany (IsFile (IsPart trees left)) n order
IsStretch trees (an_inclusion left) order = IsInclusion (IsPart trees left) order
IsStretch trees (some_inclusions left n) order = AreMany (IsInclusion (IsPart trees left)) n order

-- a later moment; where no fault was told, this stretch of the order came since
pub record IsWalked (stretch : Stretch) (s t : WalkState) : Type 0 where
  pub sound : IsSound t
  pub more : length s.names ≤ length t.names
  pub trees : Grows s.trees t.trees
  pub clear : IsClear t → IsClear s
  pub added : IsClear t → (own : List ℕ) × (t.order ≡ s.order ++ own) × IsStretch t.trees stretch own

-- the walk is over; where no fault was told, its order is one
pub record IsOver (s : WalkState) : Type 0 where
  pub sound : IsSound s
  pub order : IsClear s → IsOrder s.trees s.order

-- there is a tree for each name; the diagnostics stand in the files that are named
abbrev pub IsWhole : WalkAnswer → Type 0
IsWhole (answer.Walked w) = length w.trees.items ≡ length w.names
IsWhole (answer.Diags files list) = AreIn (length files) list.items

-- of each name it is told if it is of the library
abbrev pub IsFlagged : WalkAnswer → Type 0
IsFlagged (answer.Walked w) = length w.library.items ≡ length w.names
IsFlagged (answer.Diags files list) = ⊤

-- the order is that of a walk over files with these trees
abbrev pub IsOrdered : WalkAnswer → Type 0
IsOrdered (answer.Walked w) = IsOrder (map file_view w.trees.items) w.order.items
IsOrdered (answer.Diags files list) = ⊤
