-- Turns, stages and logs that are the same but for the texts of results.
use Rattle.std.specs.Prelude.{◌≡◌, ℕ, Bool, List, [], ◌∷◌, map, min}
use Rattle.run_meaning.specs.Alone.{run_alone}
use Rattle.run_meaning.specs.Meaning.{basis_of}
use Rattle.run_meaning.specs.Runs.{Basis, Stage}
use Rattle.run_meaning.specs.Turns.{Command, Line, asking, faulty, ReadTurn, Reported}
use Rattle.run_text.specs.LogText.{log_text}
use Rattle.run_text.specs.TurnReading.{nothing_fed}
use Rattle.run_text.specs.declared.style.Style.TheVariants.{One}
use Rattle.site_model.specs.PlainSite.{PlainSite}
use Rattle.audit_laws.specs.Versions.{untold_all, untold_asked}

-- a line without them, and a report
abbrev pub untold_line : Line → Line
untold_line (asking a) = asking (untold_asked a)
untold_line (faulty f) = faulty f

abbrev pub untold_report : Reported → Reported
untold_report r = record { order = r.order; status = min r.status 3; output = [] }

abbrev pub AlikeReports : List Reported → List Reported → Type 0
AlikeReports rs qs = map untold_report rs ≡ map untold_report qs

pub record AlikeTurns (t u : ReadTurn) : Type 0 where
  pub moment : t.moment ≡ u.moment
  pub reports : AlikeReports t.reports u.reports
  pub lines : map untold_line t.lines ≡ map untold_line u.lines

-- turn by turn
abbrev pub AllAlike : List ReadTurn → List ReadTurn → Type 0
AllAlike [] [] = Unit {0}
AllAlike [] (u ∷ us) = ⊥
AllAlike (t ∷ ts) [] = ⊥
AllAlike (t ∷ ts) (u ∷ us) = AlikeTurns t u × AllAlike ts us

pub record AlikeStages (st other : Stage) : Type 0 where
  pub turns : st.turns ≡ other.turns
  pub moment : st.moment ≡ other.moment
  pub histories : untold_all st.histories ≡ untold_all other.histories
  pub plans : st.plans ≡ other.plans
  pub due : AlikeReports st.due other.due

-- the runs of one caller over such turns, from such stages, have one log in version one
abbrev pub WriteTheSame : PlainSite → (ℕ → ℕ → Bool) → (ℕ → Command) → Type 0
WriteTheSame s holds command =
    let b : Basis = basis_of s holds command nothing_fed in
    (st other : Stage) (ts us : List ReadTurn) → AlikeStages st other → AllAlike ts us
    → log_text One s (run_alone b st ts) ≡ log_text One s (run_alone b other us)
