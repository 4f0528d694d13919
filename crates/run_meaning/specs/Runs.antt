-- A run: turn after turn, what is refused, what each checkable gets, and which checks are ordered.
use Rattle.std.specs.Prelude.{◌≡◌, ◌≤◌, ◌+◌, ℕ, false, codes, List, [], ◌∷◌, ◌++◌, length, map, max}
use Rattle.site_model.specs.PlainSite.{PlainSite}
use Rattle.site_model.specs.declared.entry.Entry.{Entry}
use Rattle.run_meaning.specs.Turns.{Asked, Begun, Feed, Histories, Line, Reported, ReadTurn, Command, words, missing, Ordered, Plans, Planned}
use Rattle.run_meaning.specs.Acts.{Rules}
use Rattle.run_meaning.specs.Rounds.{IsRound}
use Rattle.run_meaning.specs.Dealing.{Refusal, line_events, line_refusals, taken_reports, report_refusals, still, ticks, dealt}

-- What a run stands on: the rules of its entries, and how its turns are fed and followed (`Meaning` gives all of it).
pub record Basis : Type 0 where
  pub rules : Rules
  -- what is ordered after a round at a moment, by the entries before it and its own
  pub schedule : Plans → ℕ → Histories → Histories → Planned
  -- the lines that stand before a turn's own
  pub feed : Feed

-- what the log tells of a turn
pub record TurnLog : Type 0 where
  pub number : ℕ
  pub moment : ℕ
  pub refusals : List Refusal
  pub round : Histories
  pub orders : List Ordered

-- how far a run has come
pub record Stage : Type 0 where
  pub turns : ℕ
  pub moment : ℕ
  pub histories : Histories
  pub plans : Plans
  -- the reports of orders whose macros are missing, which the next turn brings first
  pub due : List Reported
  -- what stood when each turn so far began
  pub begun : List Begun

-- The start of a run.

-- a list without entries for each checkable
abbrev pub no_entries : PlainSite → Histories
no_entries s = map (λ _. []) s.checkables

abbrev pub greatest_of : List Entry → ℕ
greatest_of [] = 0
greatest_of (e ∷ es) = max e.moment (greatest_of es)

-- the greatest moment of any entry
abbrev pub greatest_moment : Histories → ℕ
greatest_moment [] = 0
greatest_moment (es ∷ ess) = max (greatest_of es) (greatest_moment ess)

-- before the first turn, with these given histories: nothing is ordered, and every checkable is due
abbrev pub start : PlainSite → Histories → Stage
start s given = record {
  turns = 0;
  moment = greatest_moment given;
  histories = given;
  plans = record { given = 0; outstanding = []; slots = map (λ _. record { next = 0; forced = false }) s.checkables };
  due = [];
  begun = [];
}

-- A turn.

-- what stands when each turn begins, the one at this moment included
abbrev pub begun_by : Stage → ℕ → List Begun
begun_by st moment = st.begun ++ record { histories = st.histories; moment = moment } ∷ []

-- all lines of a turn
abbrev pub lines_of : Basis → Stage → ReadTurn → ℕ → List Line
lines_of b st t moment = b.feed (begun_by st moment) ++ t.lines

-- all reports of a turn
abbrev pub reports_of : Stage → ReadTurn → List Reported
reports_of st t = st.due ++ t.reports

-- each list of a round behind that of the same checkable
abbrev pub joined : Histories → Histories → Histories
joined [] round = round
joined before [] = before
joined (es ∷ before) (fs ∷ round) = (es ++ fs) ∷ joined before round

-- what is refused of a turn
abbrev pub refusals_of : Basis → Stage → ReadTurn → ℕ → List Refusal
refusals_of b st t moment = line_refusals 1 (lines_of b st t moment) ++ report_refusals st.plans.outstanding (reports_of st t)

-- what each caller takes of a turn
abbrev pub events_of : Basis → ℕ → Stage → ReadTurn → ℕ → List (List Asked)
events_of b callers st t moment =
    dealt callers (line_events (lines_of b st t moment)) (taken_reports st.plans.outstanding (reports_of st t)) (ticks b.rules.site st.histories moment)

-- what a turn orders, and the slots after it
abbrev pub planned_of : Basis → Stage → ℕ → Histories → Planned
planned_of b st moment round = b.schedule st.plans moment st.histories round

-- the report of an order for whose command this macro is missing
abbrev pub without_macro : ℕ → List ℕ → Reported
without_macro number name = record { order = number; status = 3; output = codes "Macro '" ++ (name ++ codes "' is missing") }

abbrev pub due_with : ℕ → Command → List Reported → List Reported
due_with number (words ws) rs = rs
due_with number (missing name) rs = without_macro number name ∷ rs

-- the reports of orders whose macros are missing
abbrev pub due_of : List Ordered → List Reported
due_of [] = []
due_of (o ∷ os) = due_with o.number o.command (due_of os)

-- after a turn
abbrev pub stage_after : Basis → Stage → ReadTurn → TurnLog → Stage
stage_after b st t l = record {
  turns = l.number;
  moment = l.moment;
  histories = joined st.histories l.round;
  plans = record {
    given = st.plans.given + length l.orders;
    outstanding = still (reports_of st t) st.plans.outstanding ++ map (λ o. record { order = o.number; checkable = o.checkable }) l.orders;
    slots = (planned_of b st l.moment l.round).slots;
  };
  due = due_of l.orders;
  begun = begun_by st l.moment;
}

-- what the log of one turn is, with so many callers
pub record IsTurn (b : Basis) (callers : ℕ) (st : Stage) (t : ReadTurn) (l : TurnLog) : Type 0 where
  pub number : l.number ≡ st.turns + 1
  -- a moment never falls
  pub moment : l.moment ≡ max st.moment t.moment
  pub refusals : l.refusals ≡ refusals_of b st t l.moment
  pub round : IsRound b.rules l.moment st.histories (events_of b callers st t l.moment) l.round
  pub orders : l.orders ≡ (planned_of b st l.moment l.round).orders

-- the logs of turns, one after the other
abbrev pub IsRunFrom : Basis → ℕ → Stage → List ReadTurn → List TurnLog → Type 0
IsRunFrom b callers st [] ls = ls ≡ []
IsRunFrom b callers st (t ∷ ts) [] = ⊥
IsRunFrom b callers st (t ∷ ts) (l ∷ ls) = IsTurn b callers st t l × IsRunFrom b callers (stage_after b st t l) ts ls

-- the logs of a whole run, which at least one caller makes
pub record IsRun (b : Basis) (callers : ℕ) (st : Stage) (ts : List ReadTurn) (ls : List TurnLog) : Type 0 where
  pub someone : 1 ≤ callers
  pub turns : IsRunFrom b callers st ts ls

-- how far these turns come
abbrev pub stage_by : Basis → Stage → List ReadTurn → List TurnLog → Stage
stage_by b st [] ls = st
stage_by b st (t ∷ ts) [] = st
stage_by b st (t ∷ ts) (l ∷ ls) = stage_by b (stage_after b st t l) ts ls

-- the logs of a run over these turns, and then of one over those from the stage to which it comes
pub record IsRunInTwo (b : Basis) (callers : ℕ) (st : Stage) (ts us : List ReadTurn) (ls : List TurnLog) : Type 0 where
  pub first : List TurnLog
  pub second : List TurnLog
  pub both : first ++ second ≡ ls
  pub over_first : IsRunFrom b callers st ts first
  pub over_second : IsRunFrom b callers (stage_by b st ts first) us second
