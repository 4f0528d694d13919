-- Two callers whose events are taken one after the other, on a service that is checked.
use Rattle.std.specs.Prelude.{ℕ, ◌+◌, List, [], ◌∷◌, map, max, Some}
use Rattle.site_model.specs.PlainSite.{PlainSite}
use Rattle.site_model.specs.declared.event.Event.{Event}
use Rattle.run_meaning.specs.Turns.{ReadTurn, of_index}
use Rattle.run_meaning.specs.Dealing.{ordered_result}
use Rattle.run_meaning.specs.Runs.{Basis, Stage, TurnLog, no_entries, planned_of, refusals_of, stage_after, start}
use Rattle.run_meaning.specs.Alone.{Move, round_of}
use Rattle.run_examples.specs.Checks.{checked, one_service}
use Rattle.run_examples.specs.Sites.{basis}
use Rattle.run_examples.specs.Turns.{empty, ended, on, report, of_status, turn}

-- the log of a turn whose events are taken so
abbrev pub turn_by : Basis → Stage → ReadTurn → List Move → TurnLog
turn_by b st t moves =
    let moment = max st.moment t.moment in
    let round = round_of b.rules moment st.histories moves in
    record {
      number = st.turns + 1;
      moment = moment;
      refusals = refusals_of b st t moment;
      round = round;
      orders = (planned_of b st moment round).orders;
    }

abbrev pub run_by : Basis → Stage → List ReadTurn → List (List Move) → List TurnLog
run_by b st [] ms = []
run_by b st (t ∷ ts) [] = []
run_by b st (t ∷ ts) (m ∷ ms) = let l = turn_by b st t m in l ∷ run_by b (stage_after b st t l) ts ms

abbrev pub served : PlainSite
served = one_service (checked (Some 0))

abbrev pub b : Basis
b = basis served

abbrev pub first : Stage
first = start served (no_entries served)

-- an order at 10; at 20 its report, and a passive problem; at 30 its report again
abbrev pub turns : List ReadTurn
turns = empty 10 ∷ record (turn 20 (on 1 (of_status 2) ∷ [])) { reports = ended 1 0 ∷ [] } ∷ report 30 1 ∷ []

-- what the report's check ended with
abbrev pub good : Event
good = ordered_result 0 []

-- the line goes to the first caller, the report of order 1 to the second
abbrev pub line : Move
line = record { caller = 0; asked = record { checkable = 1; event = of_status 2 } }

abbrev pub reported : Move
reported = record { caller = 1; asked = record { checkable = 1; event = good } }

abbrev pub line_first : List TurnLog
line_first = run_by b first turns ([] ∷ (line ∷ reported ∷ []) ∷ [] ∷ [])

abbrev pub report_first : List TurnLog
report_first = run_by b first turns ([] ∷ (reported ∷ line ∷ []) ∷ [] ∷ [])

-- a caller with its event
pub record Done : Type 0 where
  pub caller : ℕ
  pub event : Event

abbrev pub done : ℕ → Event → Done
done k e = record { caller = k; event = e }

abbrev pub done_in : TurnLog → List Done
done_in l = map (λ e. done e.caller e.event) (of_index 1 l.round)
