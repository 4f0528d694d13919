-- The log of a world's turns over a site, and how far it came.
use Rattle.std.specs.Prelude.{ℕ, ◌≡◌, ◌⊎◌, nat_lt, List, [], length, take, Option, IfSome, if◌then◌else◌}
use Rattle.std.specs.List.{concat}
use Rattle.jiff_tz.specs.declared.tzif.Tzif.{Tzif}
use Rattle.run_meaning.specs.Runs.{IsRun, TurnLog, no_entries, start}
use Rattle.run_meaning.specs.Turns.{Histories, ReadTurn}
use Rattle.run_text.specs.LogText.{first_lines, log_text}
use Rattle.run_text.specs.ReadTurns.{AreTurnsRead}
use Rattle.run_text.specs.declared.style.Style.{Style}
use Rattle.site_edge.specs.Lists.{Adds, AddsPart}
use Rattle.site_edge.specs.declared.turn.Turn.{Turn}
use Rattle.site_model.specs.PlainSite.{PlainSite}
use Rattle.turn_engine.specs.Ready.{IsZoneOf}
use Rattle.site_run.specs.Courses.{Course}
use Rattle.site_run.specs.Feeds.{Changing, Fed, Giving, basis_with, lines_fed, no_lines}
use Rattle.site_run.specs.Ends.{TurnsCame, Ends, IsAt, IsPartWritten, Outside}
use Rattle.site_run.specs.declared.status.Status.{Status}
use Rattle.site_run.specs.declared.status.Status.TheVariants as status

-- What is written.

-- what is given before the first turn: the entries so far, and the lines that stand before each turn's own
pub record Given : Type 0 where
  pub histories : Histories
  pub fed : Fed

-- neither
abbrev pub nothing_given : PlainSite → Given
nothing_given s = record { histories = no_entries s; fed = no_lines }

-- these entries, and what a feed gives that stands so at first
abbrev pub given_by : {F : Type 0} → Histories → Giving F → Changing F → F → Given
given_by histories gives after first = record { histories = histories; fed = lines_fed gives after first }

-- the logs of a run of these turns over a site, as they are read, with so many callers
pub record AreLogs (callers : ℕ) (s : PlainSite) (given : Given) (turns : List Turn) (logs : List TurnLog) : Type 0 where
  pub zone : Option Tzif
  pub is_zone : IsZoneOf s.zone zone
  pub reads : List ReadTurn
  pub read : AreTurnsRead s turns reads
  pub run : IsRun (basis_with s zone given.fed) callers (start s given.histories) reads logs

-- what a run writes in which nothing fails, and how it ends
pub record Output : Type 0 where
  pub text : List ℕ
  pub ends : Status

-- the log of the first so many of these turns
pub record IsLog (callers : ℕ) (style : Style) (limit : ℕ) (s : PlainSite) (given : Given) (turns : List Turn) (w : Output) : Type 0 where
  pub logs : List TurnLog
  pub are : AreLogs callers s given (take limit turns) logs
  pub text : w.text ≡ log_text style s logs
  pub ends : w.ends ≡ (if nat_lt limit (length turns) then status.TurnsSpent else status.Done)

-- that of the world's turns: of those that are told, and else of some
pub record AnswersWorld (callers : ℕ) (style : Style) (limit : ℕ) (given : Given) (turns : Option (List Turn)) (s : PlainSite) (w : Output) : Type 0 where
  pub came : List Turn
  pub told : TurnsCame turns came
  pub log : IsLog callers style limit s given came w

-- what was written, by the status: all of it if the run ends as it does when nothing fails, and a prefix after a fault
abbrev pub EndsOutput : Status → Output → Option (List ℕ) → Option (List ℕ) → Type 0
EndsOutput status.Done w old new = (w.ends ≡ status.Done) × Adds w.text old new
EndsOutput status.Diagnosed w old new = (w.ends ≡ status.Diagnosed) × Adds w.text old new
EndsOutput status.TurnsSpent w old new = (w.ends ≡ status.TurnsSpent) × Adds w.text old new
EndsOutput status.NotLegal w old new = (w.ends ≡ status.NotLegal) × Adds w.text old new
EndsOutput status.Usage w old new = ⊥
EndsOutput status.ReadFault w old new = new ≡ old
EndsOutput status.WriteFault w old new = AddsPart w.text old new
EndsOutput status.WorldFault w old new = AddsPart w.text old new
EndsOutput status.OutOfMemory w old new = AddsPart w.text old new

-- a run of these ended so
abbrev pub EndsOne : Status → (Output → Type 0) → Option (List ℕ) → Option (List ℕ) → Type 0
EndsOne s Is old new = (w : Output) × Is w × EndsOutput s w old new

-- the same. If the files could not be read, or there was no memory for what they come to, nothing was written.
abbrev pub EndsRun : Status → (Output → Type 0) → Option (List ℕ) → Option (List ℕ) → Type 0
EndsRun status.ReadFault Is old new = new ≡ old
EndsRun status.OutOfMemory Is old new = (new ≡ old) ⊎ EndsOne status.OutOfMemory Is old new
EndsRun s Is old new = EndsOne s Is old new

-- How far it came.

-- into what stands before the first turn
pub record IsAtFirst (s : Status) (style : Style) (old new : Outside) : Type 0 where
  pub cause : (s ≡ status.WriteFault) ⊎ (s ≡ status.OutOfMemory)
  pub at : IsPartWritten [] [] (concat (first_lines style)) [] [] old new

-- the run over a site from its start
abbrev pub course_from_start : PlainSite → Option Tzif → Given → Style → Course
course_from_start s zone given style = record { basis = basis_with s zone given.fed; stage = start s given.histories; style = style }

-- after that, which is handed on, over turns
pub record IsOverTurns (s : Status) (callers : ℕ) (style : Style) (limit : ℕ) (site : PlainSite) (given : Given) (old new : Outside) : Type 0 where
  pub zone : Option Tzif
  pub is_zone : IsZoneOf site.zone zone
  pub begun : Outside
  pub first : IsAt [] (concat (first_lines style)) [] [] old begun
  pub through : begun.kept_back ≡ 0
  pub ends : Ends s callers (course_from_start site zone given style) limit (λ _ _. Unit {0}) begun new

abbrev pub Went : Status → ℕ → Style → ℕ → PlainSite → Given → Outside → Outside → Type 0
Went s callers style limit site given old new =
    IsAtFirst s style old new ⊎ IsOverTurns s callers style limit site given old new
