-- What the files of a site come to before any object is made.
use Rattle.std.specs.Prelude.{ℕ, List, [], ◌∷◌, Bool, Option, Some, None}
use Rattle.site_base.specs.declared.diag.Diag.{Diag}
use Rattle.site_base.specs.declared.diag_kind.DiagKind.{DiagKind}
use Rattle.site_base.specs.declared.diag_kind.DiagKind.TheVariants.{NoFile}
use Rattle.site_base.specs.declared.place.Place.{Place}
use Rattle.conf_sources.specs.Sources.{Told}
use Rattle.site_conf.specs.Walks.{WalkOutcome, site, faults, walked, outcome_of}
use Rattle.dsl_syntax.specs.Syntax.{Statements}
use Rattle.dsl_value.specs.declared.value.Value.{Value}
use Rattle.dsl_load.specs.Loads.{plain_parts}
use Rattle.dsl_load.specs.declared.load_parts.LoadParts.{LoadParts}
use Rattle.eval_meaning.specs.Load.{Loaded, load_run, loaded}
use Rattle.eval_meaning.specs.Registered.{PlainFile}
use Rattle.eval_meaning.specs.States.{Outcome, gives, blocked}
use Rattle.eval_meaning.specs.States as outcome
use Rattle.commit_meaning.specs.Answers.{diag}
use Rattle.site_phases.specs.Constants.{no_item, root_start}
use Rattle.site_load.specs.declared.load_answer.LoadAnswer.{LoadAnswer}
use Rattle.site_load.specs.declared.load_answer.LoadAnswer.TheVariants as answer
use Rattle.site_load.specs.Zones.{ZoneFound, unnamed, there, missing, zone_found, zone_name}

-- the names of the files with what they registered and the bytes of the zone's file, if one is named; or what is wrong
pub data LoadOutcome : Type 0 where
  loads : List (List ℕ) → Loaded → Option (List ℕ) → LoadOutcome
  refuses : List (List ℕ) → List Diag → LoadOutcome

-- one fault that belongs to no item
abbrev pub fault_outcome : List (List ℕ) → Place → DiagKind → List ℕ → LoadOutcome
fault_outcome names place kind text = refuses names (diag no_item place kind text ∷ [])

-- each tree with its file's name, and whether that is of the library
abbrev pub plain_files : List (List ℕ) → List Bool → List Statements → List PlainFile
plain_files ns bs [] = []
plain_files [] bs (t ∷ ts) = []
plain_files (n ∷ ns) [] (t ∷ ts) = []
plain_files (n ∷ ns) (b ∷ bs) (t ∷ ts) = record { name = n; builtin = b; statements = t } ∷ plain_files ns bs ts

-- ---- the zone

abbrev pub with_zone : List (List ℕ) → Loaded → ZoneFound → LoadOutcome
with_zone names load unnamed = loads names load None
with_zone names load (there bytes) = loads names load (Some bytes)
with_zone names load (missing name) = fault_outcome names root_start NoFile name

-- ---- the run

-- nothing is blocked at a load
abbrev pub run_outcome : Told → List (List ℕ) → Outcome Value → LoadOutcome
run_outcome all names (gives v s) = with_zone names (loaded s) (zone_found all (zone_name s.cells))
run_outcome all names (outcome.faults place kind text reads) = fault_outcome names place kind text
run_outcome all names (blocked read reads) = refuses names []

abbrev pub walk_loads : Told → List Bool → WalkOutcome → LoadOutcome
walk_loads all library (site names trees order) = run_outcome all names (load_run (plain_files names library trees) order)
walk_loads all library (faults names list) = refuses names list

-- what these files make of a root
abbrev pub load_outcome : Told → List ℕ → LoadOutcome
load_outcome all root = walk_loads all (walked all root).library (outcome_of (walked all root))

-- ---- the plain value of an answer

abbrev pub load_view : LoadAnswer → LoadOutcome
load_view (answer.Loaded l) = loads l.files (plain_parts l.parts) l.zone
load_view (answer.Diags files list) = refuses files list

-- something holds of what was loaded
abbrev pub IfLoaded : (LoadParts → Type 0) → LoadAnswer → Type 0
IfLoaded P (answer.Loaded l) = P l.parts
IfLoaded P (answer.Diags files list) = Unit {0}
