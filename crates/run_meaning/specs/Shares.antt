-- Words of the laws of dealing and of rounds.
use Rattle.std.specs.Prelude.{ℕ, suc, Bool, true, false, List, [], ◌∷◌, ◌++◌, map, filter, is_some, if◌then◌else◌}
use Rattle.site_model.specs.declared.entry.Entry.{Entry}
use Rattle.site_model.specs.declared.event.Event.{Event}
use Rattle.run_meaning.specs.Turns.{Asked, Line, asking, faulty, Outstanding, Reported, ReadTurn}
use Rattle.run_meaning.specs.Rounds.{events_on}
use Rattle.run_meaning.specs.Dealing.{Refusal, refused_line, refused_report, checkable_of, still, without}
use Rattle.run_meaning.specs.Runs.{Stage}

-- the caller and the event of an entry
abbrev pub done_in : Entry → ℕ × Event
done_in e = (e.caller, e.event)

-- the events dealt on one checkable, each with its caller, of the callers from this one on
abbrev pub dealt_on : ℕ → ℕ → List (List Asked) → List (ℕ × Event)
dealt_on c k [] = []
dealt_on c k (events ∷ more) = map (λ e. (k, e)) (events_on c events) ++ dealt_on c (suc k) more

-- the orders whose reports are refused
abbrev pub orders_refused : List Refusal → List ℕ
orders_refused [] = []
orders_refused (refused_line n fault ∷ rs) = orders_refused rs
orders_refused (refused_report order ∷ rs) = order ∷ orders_refused rs

abbrev pub is_event : Line → Bool
is_event (asking a) = true
is_event (faulty f) = false

-- the lines that aren't refused
abbrev pub lines_kept : List Line → List Line
lines_kept ls = filter is_event ls

-- the reports that aren't refused, where these orders are outstanding
abbrev pub reports_kept : List Outstanding → List Reported → List Reported
reports_kept os [] = []
reports_kept os (r ∷ rs) =
    if is_some (checkable_of r.order os) then r ∷ reports_kept (without r.order os) rs else reports_kept (without r.order os) rs

-- a turn without its refused lines and reports
abbrev pub kept_of : Stage → ReadTurn → ReadTurn
kept_of st t = record {
  moment = t.moment;
  reports = reports_kept (still st.due st.plans.outstanding) t.reports;
  lines = lines_kept t.lines;
}
