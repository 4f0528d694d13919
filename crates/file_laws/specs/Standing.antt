-- Syntax that stands in files which are numbered from 0.
use Rattle.std.specs.Prelude.{◌≡◌, ℕ, suc, List, length, map, nat_lt, if◌then◌else◌}
use Rattle.site_base.specs.declared.place.Place.{Place}
use Rattle.eval_meaning.specs.Registered.{PlainFile}
use Rattle.place_laws.specs.MovedStates.{moved_file}

-- a place in one of the first so many files stays, and any other goes one file on
abbrev pub beyond : ℕ → Place → Place
beyond n l = if nat_lt l.file n then l else record l { file = suc l.file }

-- all syntax of these files stands in one of them, so that no place of it goes on
abbrev pub StandAmong : List PlainFile → Type 0
StandAmong files = map (moved_file (beyond (length files))) files ≡ files
