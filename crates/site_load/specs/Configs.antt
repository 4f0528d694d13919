-- What the files of a site come to.
use Rattle.std.specs.Prelude.{ℕ, List, Bool}
use Rattle.site_model.specs.PlainSite.{PlainSite}
use Rattle.eval_meaning.specs.Load.{Loaded}
use Rattle.commit_meaning.specs.Commits.{Committed, commit, refused}
use Rattle.site_phases.specs.Constants.{AreBadBytes, PlainGlobals, settings_of}
use Rattle.site_phases.specs.Phases.{phases, site_made}
use Rattle.commit_waves.specs.Globals.{globals_of}
use Rattle.site_load.specs.Loads.{LoadOutcome, loads, refuses}

-- the commit over these globals, given whether the zone's file is none
abbrev pub commit_with : List (List ℕ) → PlainGlobals → Bool → Loaded → Committed PlainSite
commit_with names g bad load = commit (λ os. phases names g os bad) (site_made names g) load

-- the commit of what was loaded, or what is wrong with the files
abbrev pub config_outcome : Bool → LoadOutcome → Committed PlainSite
config_outcome bad (loads names load zone) = commit_with names (globals_of load.store.cells zone) bad load
config_outcome bad (refuses names list) = refused list

-- the names of the files that places speak of
abbrev pub names_of : LoadOutcome → List (List ℕ)
names_of (loads names _ _) = names
names_of (refuses names _) = names

-- the zone's file is none
abbrev pub IsBadZone : LoadOutcome → Type 0
IsBadZone (loads names load zone) = AreBadBytes (settings_of (globals_of load.store.cells zone)).zone
IsBadZone (refuses names list) = ⊥
