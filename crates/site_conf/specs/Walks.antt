-- The walk over the files of a site.
use Rattle.std.specs.Prelude.{ℕ, zero, suc, ◌+◌, ◌-◌, List, [], ◌∷◌, ◌++◌, ◌==◌, length, set, slice_get, nat_lt, Bool, true, false, Option, Some, None, if◌then◌else◌}
use Rattle.site_base.specs.Quoted.{quoted}
use Rattle.dsl_syntax.specs.Syntax.{Statements}
use Rattle.site_base.specs.declared.diag.Diag.{Diag}
use Rattle.site_base.specs.declared.diag_kind.DiagKind.{DiagKind}
use Rattle.site_base.specs.declared.diag_kind.DiagKind.TheVariants as kind
use Rattle.site_base.specs.declared.place.Place.{Place}
use Rattle.dsl_lexer.specs.Places.{start_of}
use Rattle.conf_sources.specs.Inclusions.{place_of}
use Rattle.conf_sources.specs.Sources.{Told, full_name, is_library, source_at, content_of, sources_of}
use Rattle.conf_sources.specs.Reading.{Kept, diag_at, in_file, kept_content}
use Rattle.conf_sources.specs.declared.holding.Holding.{Holding}
use Rattle.conf_sources.specs.declared.holding.Holding.TheVariants.{Missing, TooLong, Broken, Whole}
use Rattle.conf_sources.specs.declared.inclusion.Inclusion.{Inclusion}
use Rattle.conf_sources.specs.declared.source.Source.{Source}
use Rattle.conf_sources.specs.declared.source.Source.TheVariants.{File}

-- What stands at one moment of the walk: of each file that was met what it was named, its name, whether it is
-- a part of the built-in library, what it holds, its tree and
-- its inclusions; the order so far, the diagnostics, how many inclusions there were, and whether the walk has ended.
pub record WalkState : Type 0 where
  pub sources : List Source
  pub names : List (List ℕ)
  pub library : List Bool
  pub holdings : List Holding
  pub trees : List Statements
  pub inclusions : List (List Inclusion)
  pub order : List ℕ
  pub diags : List Diag
  pub count : ℕ
  pub ended : Bool

abbrev pub empty_state : WalkState
empty_state = record { sources = []; names = []; library = []; holdings = []; trees = []; inclusions = []; order = []; diags = []; count = 0; ended = false }

abbrev pub or_nothing : {A : Type 0} → Option (List A) → List A
or_nothing None = []
or_nothing (Some xs) = xs

-- one number more in the order
abbrev pub with_number : ℕ → WalkState → WalkState
with_number n s = record s { order = s.order ++ n ∷ [] }

-- the number at this place of the order is how many stand behind it
abbrev pub with_length : ℕ → WalkState → WalkState
with_length start s = record s { order = set s.order start (length s.order - start - 1) }

-- a fault of an inclusion of this name, at its place
abbrev pub with_fault : Place → DiagKind → List ℕ → WalkState → WalkState
with_fault at k name s = record s { diags = s.diags ++ diag_at at k (quoted name) ∷ [] }

abbrev pub with_count : WalkState → WalkState
with_count s = record s { count = s.count + 1 }

abbrev pub with_end : WalkState → WalkState
with_end s = record s { ended = true }

-- one file more, as it was kept
abbrev pub with_kept : Source → Kept → WalkState → WalkState
with_kept source k s = record s {
  sources = s.sources ++ source ∷ [];
  names = s.names ++ full_name source ∷ [];
  library = s.library ++ is_library source ∷ [];
  holdings = s.holdings ++ k.holding ∷ [];
  trees = s.trees ++ k.tree ∷ [];
  inclusions = s.inclusions ++ k.inclusions ∷ [];
  diags = s.diags ++ k.faults;
}

-- a state, and the file whose inclusions are to be followed in it, if there is one
pub data Entered : Type 0 where
  follows : ℕ → WalkState → Entered
  stays : WalkState → Entered

-- what it holds decides
abbrev pub settled : Place → List ℕ → ℕ → Option Holding → WalkState → Entered
settled at name index (Some Missing) s = stays (with_fault at kind.NoFile name s)
settled at name index (Some TooLong) s = stays (with_fault at kind.FileTooLong name s)
settled at name index (Some Broken) s = stays s
settled at name index (Some Whole) s = follows index (with_number index s)
settled at name index None s = stays s

abbrev pub settled_at : Place → Source → ℕ → WalkState → Entered
settled_at at source index s = settled at (full_name source) index (slice_get s.holdings index) s

abbrev pub met_by : Told → Place → Source → Option ℕ → WalkState → Entered
met_by files at source (Some index) s = settled_at at source index s
met_by files at source None s = settled_at at source (length s.names) (with_kept source (kept_content (length s.names) (content_of files source)) s)

-- A file is met. It is read where it wasn't met before, and the fault of its own text is told then; that it is missing or too long is
-- told whenever it is met.
unfoldable pub met : Told → Place → Source → WalkState → Entered
met files at source s = met_by files at source (source_at source s.sources) s

-- One inclusion, where so many may still stand in it and itself: the 10,001st ends the walk, one too deep is told, and else its file is
-- met.
unfoldable pub entered : Told → ℕ → Place → Source → WalkState → Entered
entered files left at source s =
    if s.ended then stays s
    else if nat_lt s.count 10000 then (if left == 0 then stays (with_fault at kind.IncludeDepth (full_name source) (with_count s)) else met files at source (with_count s))
    else stays (with_end (with_fault at kind.TooManyFiles (full_name source) s))

-- The inclusions of a file, where `onward` follows those of the files that it includes.

abbrev pub each_source : Told → (Entered → WalkState) → ℕ → Place → List Source → WalkState → WalkState
each_source files onward left at [] s = s
each_source files onward left at (x ∷ xs) s = each_source files onward left at xs (onward (entered files left at x s))

abbrev pub one_inclusion : Told → (Entered → WalkState) → ℕ → ℕ → List ℕ → Inclusion → WalkState → WalkState
one_inclusion files onward left index file i s =
    if s.ended then s
    else each_source files onward left (in_file index (place_of i)) (sources_of files file i) (with_number (length (sources_of files file i)) s)

abbrev pub each_inclusion : Told → (Entered → WalkState) → ℕ → ℕ → List ℕ → List Inclusion → WalkState → WalkState
each_inclusion files onward left index file [] s = s
each_inclusion files onward left index file (i ∷ more) s = each_inclusion files onward left index file more (one_inclusion files onward left index file i s)

-- its length is known once the inclusions were followed
unfoldable pub part_with : Told → (Entered → WalkState) → ℕ → ℕ → WalkState → WalkState
part_with files onward left index s =
    with_length (length s.order) (each_inclusion files onward left index (or_nothing (slice_get s.names index)) (or_nothing (slice_get s.inclusions index)) (with_number 0 s))

-- nothing is followed, or what is to be followed is
abbrev pub stopped : Entered → WalkState
stopped (follows index s) = s
stopped (stays s) = s

abbrev pub onward_by : (ℕ → WalkState → WalkState) → Entered → WalkState
onward_by walk (follows index s) = walk index s
onward_by walk (stays s) = s

-- the part of a file in the walk, where so many inclusions may still stand in one another
abbrev pub part : Told → ℕ → ℕ → WalkState → WalkState
part files zero = part_with files stopped zero
part files (suc left) = part_with files (onward_by (part files left)) (suc left)

-- what follows an inclusion then
abbrev pub onward_at : Told → ℕ → Entered → WalkState
onward_at files zero = stopped
onward_at files (suc left) = onward_by (part files left)

-- the walk from a root: it is met at its own head, and at most 50 inclusions stand in one another
abbrev pub walked : Told → List ℕ → WalkState
walked files root = onward_by (part files 50) (met files (start_of 0) (File root) empty_state)

-- The answer.

-- the files with their trees and their order, or the diagnostics with the files' names
pub data WalkOutcome : Type 0 where
  site : List (List ℕ) → List Statements → List ℕ → WalkOutcome
  faults : List (List ℕ) → List Diag → WalkOutcome

abbrev pub outcome_by : List Diag → WalkState → WalkOutcome
outcome_by [] s = site s.names s.trees s.order
outcome_by (d ∷ ds) s = faults s.names (d ∷ ds)

abbrev pub outcome_of : WalkState → WalkOutcome
outcome_of s = outcome_by s.diags s

-- what the walk of a site comes to
abbrev pub walk_outcome : Told → List ℕ → WalkOutcome
walk_outcome files root = outcome_of (walked files root)
