-- What a query is answered once the turns of a script are over.
use Rattle.std.specs.Prelude.{ℕ, ◌≡◌, ◌<◌, ◌≤◌, List, length, Option, Some, None}
use Rattle.run_meaning.specs.Runs.{Stage, TurnLog, stage_by, start}
use Rattle.site_edge.specs.declared.turn.Turn.{Turn}
use Rattle.site_model.specs.PlainSite.{PlainSite}
use Rattle.site_query.specs.Answers.{answer_text}
use Rattle.site_query.specs.declared.query.Query.{Query}
use Rattle.site_run.specs.Feeds.{basis_with}
use Rattle.site_run.specs.Logs.{AreLogs, Given, nothing_given}

-- how far a run came that has these logs
abbrev pub stage_left : (callers : ℕ) (s : PlainSite) (given : Given) (turns : List Turn) (logs : List TurnLog) → AreLogs callers s given turns logs → Stage
stage_left callers s given turns logs are = stage_by (basis_with s are.zone given.fed) (start s given.histories) are.reads logs

-- the answer over the entries that a run of these turns leaves, at the last turn's moment, which is 0 without a turn
pub record IsQueried (callers : ℕ) (s : PlainSite) (given : Given) (turns : List Turn) (query : Query) (text : List ℕ) : Type 0 where
  pub logs : List TurnLog
  pub are : AreLogs callers s given turns logs
  pub is :
      text ≡ answer_text s (stage_left callers s given turns logs are).histories (stage_left callers s given turns logs are).moment query

-- so of at most so many turns; nothing is answered if there are more
abbrev pub AnswersQuery : ℕ → ℕ → PlainSite → List Turn → Query → Option (List ℕ) → Type 0
AnswersQuery callers limit s turns query (Some text) = (length turns ≤ limit) × IsQueried callers s (nothing_given s) turns query text
AnswersQuery callers limit s turns query None = limit < length turns
