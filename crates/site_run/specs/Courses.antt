-- Turns of a run, one after another: their logs, what is written and started of them, and how the run stands after them.
use Rattle.std.specs.Prelude.{ℕ, List, [], map}
use Rattle.std.specs.List.{concat, flat_map}
use Rattle.run_meaning.specs.Alone.{run_alone, turn_alone}
use Rattle.run_meaning.specs.Runs.{Basis, IsRunFrom, IsTurn, Stage, TurnLog, stage_by}
use Rattle.run_meaning.specs.Turns.{Begun, ReadTurn}
use Rattle.run_text.specs.LogText.{turn_lines}
use Rattle.run_text.specs.TurnReading.{turn_read}
use Rattle.run_text.specs.declared.style.Style.{Style}
use Rattle.site_edge.specs.declared.order.Order.{Order}
use Rattle.site_edge.specs.declared.turn.Turn.{Turn}
use Rattle.site_model.specs.PlainSite.{site_view}
use Rattle.turn_engine.specs.Stages.{Running, stage_of}
use Rattle.site_run.specs.Feeds.{Changing, Giving, basis_fed}
use Rattle.site_run.specs.Starts.{calls_with, started_of}

-- what a run stands on, the stage from which it goes on, and the version of its log
pub record Course : Type 0 where
  pub basis : Basis
  pub stage : Stage
  pub style : Style

-- that of an engine with a feed: with what stood when each turn so far began, and the feed as it was at first
abbrev pub course_of : {F : Type 0} → Running → List Begun → Style → Giving F → Changing F → F → Course
course_of r begun style gives after first =
    record { basis = basis_fed (site_view r.site) r.zone gives after first; stage = stage_of r begun; style = style }

-- the text of a log
abbrev pub text_of : Course → TurnLog → List ℕ
text_of c l = concat (turn_lines c.style c.basis.rules.site l)

abbrev pub reads : Course → List Turn → List ReadTurn
reads c ts = map (turn_read c.basis.rules.site) ts

-- Turns of so many callers, by their logs.

-- these are logs of the next turns
abbrev pub AreLogsOf : ℕ → Course → List Turn → List TurnLog → Type 0
AreLogsOf callers c ts ls = IsRunFrom c.basis callers c.stage (reads c ts) ls

-- their text
abbrev pub text_over : Course → List TurnLog → List ℕ
text_over c ls = concat (flat_map (turn_lines c.style c.basis.rules.site) ls)

-- the orders that are started of them
abbrev pub orders_over : List TurnLog → List Order
orders_over ls = flat_map (λ l. started_of l.orders) ls

-- the calls by which they are started
abbrev pub calls_over : List TurnLog → List (List Order)
calls_over ls = flat_map (λ l. calls_with (started_of l.orders)) ls

-- the run after them
abbrev pub behind_over : Course → List Turn → List TurnLog → Course
behind_over c ts ls = record c { stage = stage_by c.basis c.stage (reads c ts) ls }

-- this is a log of one turn more, after those
abbrev pub IsNextLog : ℕ → Course → List Turn → List TurnLog → Turn → TurnLog → Type 0
IsNextLog callers c ts ls t l = IsTurn c.basis callers (behind_over c ts ls).stage (turn_read c.basis.rules.site t) l

-- Turns of one caller, whose logs are functions.

-- the log of the next turn
abbrev pub log_of : Course → Turn → TurnLog
log_of c t = turn_alone c.basis c.stage (turn_read c.basis.rules.site t)

-- the logs of the next turns
abbrev pub logs : Course → List Turn → List TurnLog
logs c ts = run_alone c.basis c.stage (reads c ts)

-- their text
abbrev pub text : Course → List Turn → List ℕ
text c ts = text_over c (logs c ts)

-- the orders that are started of them
abbrev pub orders : Course → List Turn → List Order
orders c ts = orders_over (logs c ts)

-- the calls by which they are started
abbrev pub calls : Course → List Turn → List (List Order)
calls c ts = calls_over (logs c ts)

-- the run after them
abbrev pub behind : Course → List Turn → Course
behind c ts = behind_over c ts (logs c ts)
