-- The inclusions of a site as a tree, and what is told of those that a walk visits.
use Rattle.std.specs.Prelude.{ℕ, zero, suc, List, [], ◌∷◌, ◌++◌, length, take, nat_lt, slice_get, Bool, true, false, Option, Some, None, if◌then◌else◌}
use Rattle.std.specs.List.{filter, flat_map}
use Rattle.site_base.specs.Quoted.{quoted}
use Rattle.site_base.specs.declared.diag.Diag.{Diag}
use Rattle.site_base.specs.declared.diag_kind.DiagKind.{DiagKind}
use Rattle.site_base.specs.declared.diag_kind.DiagKind.TheVariants.{NoFile, FileTooLong, IncludeDepth, TooManyFiles}
use Rattle.site_base.specs.declared.place.Place.{Place}
use Rattle.dsl_lexer.specs.Places.{start_of}
use Rattle.conf_sources.specs.Inclusions.{place_of}
use Rattle.conf_sources.specs.Reading.{Kept, diag_at, in_file, kept_content}
use Rattle.conf_sources.specs.Sources.{Told, content_of, full_name, source_at, sources_of}
use Rattle.conf_sources.specs.declared.holding.Holding.{Holding}
use Rattle.conf_sources.specs.declared.holding.Holding.TheVariants.{Missing, TooLong, Broken, Whole}
use Rattle.conf_sources.specs.declared.inclusion.Inclusion.{Inclusion}
use Rattle.conf_sources.specs.declared.source.Source.{Source}
use Rattle.conf_sources.specs.declared.source.Source.TheVariants.{File}

-- ---- files

-- the index of a file among those that were met
abbrev pub index_by : ℕ → Option ℕ → ℕ
index_by n (Some k) = k
index_by n None = n

abbrev pub index_of : List Source → Source → ℕ
index_of met x = index_by (length met) (source_at x met)

-- what a file holds, and the inclusions in it
abbrev pub kept_in : Told → List Source → Source → Kept
kept_in all met x = kept_content (index_of met x) (content_of all x)

-- ---- the tree of inclusions

-- An inclusion of one file: where it stands, what it includes, and how many inclusions stand in one another there, itself among them.
pub record Visit : Type 0 where
  pub at : Place
  pub source : Source
  pub depth : ℕ

abbrev pub visit : Place → ℕ → Source → Visit
visit at depth y = record { at = at; source = y; depth = depth }

-- of files that are included at one place: each, and then what is below it
abbrev pub visits_at : (Source → List Visit) → Place → ℕ → List Source → List Visit
visits_at below at depth ys = flat_map (λ y. visit at depth y ∷ below y) ys

-- of the inclusions in a file, in its order
abbrev pub visits_in : Told → (Source → List Visit) → ℕ → ℕ → List ℕ → List Inclusion → List Visit
visits_in all below depth index file is = flat_map (λ i. visits_at below (in_file index (place_of i)) depth (sources_of all file i)) is

abbrev pub visits_of : Told → List Source → (Source → List Visit) → ℕ → Source → List Visit
visits_of all met below depth x = visits_in all below depth (index_of met x) (full_name x) (kept_in all met x).inclusions

-- only a file that has a tree has inclusions
abbrev pub if_whole : Holding → List Visit → List Visit
if_whole Whole vs = vs
if_whole Missing vs = []
if_whole TooLong vs = []
if_whole Broken vs = []

-- What is below a file in which so many inclusions stand already, in preorder: each inclusion stands before those that are in its file. Below it so many
-- more may stand in one another.
abbrev pub below : Told → List Source → ℕ → ℕ → Source → List Visit
below all met zero depth x = []
below all met (suc left) depth x = if_whole (kept_in all met x).holding (visits_of all met (below all met left (suc depth)) (suc depth) x)

-- All inclusions of a site, in preorder. At most 50 stand in one another, and those that are one too deep stand there too, with nothing below them.
abbrev pub visits : Told → List Source → List ℕ → List Visit
visits all met root = below all met 51 0 (File root)

-- ---- what is told

abbrev pub fault_at : Place → DiagKind → Source → Diag
fault_at at kind x = diag_at at kind (quoted (full_name x))

-- a missing file and one that is too long are told wherever they are included
abbrev pub holding_faults : Place → Source → Holding → List Diag
holding_faults at x Missing = fault_at at NoFile x ∷ []
holding_faults at x TooLong = fault_at at FileTooLong x ∷ []
holding_faults at x Broken = []
holding_faults at x Whole = []

-- in an inclusion that is too deep nothing is looked at
abbrev pub faults_of : Told → List Source → Visit → List Diag
faults_of all met v = if nat_lt 50 v.depth then fault_at v.at IncludeDepth v.source ∷ [] else holding_faults v.at v.source (kept_in all met v.source).holding

-- the first visit that is one too many is told, and ends all
abbrev pub one_too_many : Option Visit → List Diag
one_too_many (Some v) = fault_at v.at TooManyFiles v.source ∷ []
one_too_many None = []

abbrev pub most_visits : ℕ
most_visits = 10000

-- of these visits
abbrev pub told_of : Told → List Source → List Visit → List Diag
told_of all met vs = flat_map (faults_of all met) (take most_visits vs) ++ one_too_many (slice_get vs most_visits)

-- the root is met at its own head
abbrev pub root_faults : Told → List Source → List ℕ → List Diag
root_faults all met root = holding_faults (start_of 0) (File root) (kept_in all met (File root)).holding

-- a diagnostic that is of an inclusion, and not of a file's own text
abbrev pub is_of_inclusion : DiagKind → Bool
is_of_inclusion NoFile = true
is_of_inclusion FileTooLong = true
is_of_inclusion IncludeDepth = true
is_of_inclusion TooManyFiles = true
is_of_inclusion k = false

abbrev pub of_inclusions : List Diag → List Diag
of_inclusions ds = filter (λ d. is_of_inclusion d.kind) ds
