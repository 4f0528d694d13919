-- The log of a site, on which downtimes recur or don't.
use Rattle.std.specs.Prelude.{ℕ, ◌≡◌, ◌⊎◌, Bool, true, false, Option, List}
use Rattle.jiff_tz.specs.declared.tzif.Tzif.{Tzif}
use Rattle.run_meaning.specs.Turns.{Histories}
use Rattle.run_text.specs.declared.style.Style.{Style}
use Rattle.site_edge.specs.declared.turn.Turn.{Turn}
use Rattle.site_model.specs.PlainSite.{PlainSite}
use Rattle.site_run.specs.Ends.{Outside}
use Rattle.site_run.specs.Logs.{AnswersWorld, Given, IsLog, Went, Output}
use Rattle.site_run.specs.declared.status.Status.{Status}
use Rattle.site_run.specs.declared.status.Status.TheVariants as status
use Rattle.site_run.specs.Feeds.{no_lines}
use Rattle.turn_engine.specs.Ready.{IsZoneOf}
use Rattle.whole_runs.specs.Recurring.{recurring_lines}

-- these entries, and the lines of what recurs
abbrev pub recurring_given : PlainSite → Option Tzif → Histories → Given
recurring_given s zone histories = record { histories = histories; fed = recurring_lines s zone }

-- these entries alone
abbrev pub plain_given : Histories → Given
plain_given histories = record { histories = histories; fed = no_lines }

-- what is given to a run over a site that has these entries, whose downtimes recur, by a table of its zone's file, or don't
abbrev pub IsGiven : Bool → PlainSite → Histories → Given → Type 0
IsGiven true s histories given = (zone : Option Tzif) × IsZoneOf s.zone zone × (given ≡ recurring_given s zone histories)
IsGiven false s histories given = given ≡ plain_given histories

-- and such a thing holds of what is given
abbrev pub OnGiven : Bool → PlainSite → Histories → (Given → Type 0) → Type 0
OnGiven recur s histories Is = (given : Given) × IsGiven recur s histories given × Is given

-- the log of the first so many of these turns, after these entries
abbrev pub IsSiteLog : ℕ → Style → Bool → ℕ → PlainSite → Histories → List Turn → Output → Type 0
IsSiteLog callers style recur limit s histories turns w = OnGiven recur s histories (λ given. IsLog callers style limit s given turns w)

-- that of the world's turns: of those that are told, and else of some
abbrev pub AnswersTurns : ℕ → Style → Bool → ℕ → Option (List Turn) → PlainSite → Histories → Output → Type 0
AnswersTurns callers style recur limit turns s histories w = OnGiven recur s histories (λ given. AnswersWorld callers style limit given turns s w)

-- How far it came: nowhere, as there was no memory for what a run stands on; or into the log.

pub record IsNowhere (end : Status) (old new : Outside) : Type 0 where
  pub cause : end ≡ status.OutOfMemory
  pub same : new ≡ old

abbrev pub WentOver : Status → ℕ → Style → Bool → ℕ → PlainSite → Histories → Outside → Outside → Type 0
WentOver end callers style recur limit s histories old new =
    IsNowhere end old new ⊎ OnGiven recur s histories (λ given. Went end callers style limit s given old new)
