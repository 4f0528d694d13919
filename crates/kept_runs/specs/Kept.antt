-- The state file of what the turns of a script leave.
use Rattle.std.specs.Prelude.{ℕ, ◌≡◌, ◌<◌, ◌≤◌, List, length, Option, Some, None}
use Rattle.run_meaning.specs.Runs.{TurnLog, stage_by, start}
use Rattle.run_meaning.specs.Turns.{Histories}
use Rattle.site_edge.specs.declared.turn.Turn.{Turn}
use Rattle.site_model.specs.PlainSite.{PlainSite}
use Rattle.site_keep.specs.StateFile.{state_file}
use Rattle.site_run.specs.Feeds.{basis_with}
use Rattle.site_run.specs.Logs.{AreLogs, Given, nothing_given}

-- the entries that a run leaves which has these logs
abbrev pub histories_left : (callers : ℕ) (s : PlainSite) (given : Given) (turns : List Turn) (logs : List TurnLog) → AreLogs callers s given turns logs → Histories
histories_left callers s given turns logs are = (stage_by (basis_with s are.zone given.fed) (start s given.histories) are.reads logs).histories

-- the state file of the entries that a run of these turns leaves
pub record IsKept (callers : ℕ) (s : PlainSite) (given : Given) (turns : List Turn) (text : List ℕ) : Type 0 where
  pub logs : List TurnLog
  pub are : AreLogs callers s given turns logs
  pub is : text ≡ state_file s (histories_left callers s given turns logs are)

-- that of at most so many turns; there is none if there are more
abbrev pub AnswersKeep : ℕ → ℕ → PlainSite → List Turn → Option (List ℕ) → Type 0
AnswersKeep callers limit s turns (Some text) = (length turns ≤ limit) × IsKept callers s (nothing_given s) turns text
AnswersKeep callers limit s turns None = limit < length turns
