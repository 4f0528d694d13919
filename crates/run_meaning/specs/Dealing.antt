-- Dealing: which caller takes what of a turn, and what is refused.
use Rattle.std.specs.Prelude.{◌+◌, ◌%◌, ℕ, zero, suc, List, [], ◌∷◌, ◌++◌, map, filter, nat_eq, nat_lt, not, ◌&&◌, Bool, false, Option, Some, None, if◌then◌else◌}
use Rattle.plugin_line.specs.Output.{plugin_result}
use Rattle.site_model.specs.PlainSite.{PlainCheck, PlainSite}
use Rattle.site_model.specs.declared.entry.Entry.{Entry}
use Rattle.site_model.specs.declared.event.Event.{Event}
use Rattle.site_model.specs.declared.event.Event.TheVariants as event
use Rattle.run_meaning.specs.View.{view_of, is_hard_problem}
use Rattle.run_meaning.specs.Turns.{Asked, Histories, Line, asking, faulty, Outstanding, Reported, from_on, of_index}

-- a line's number in its turn with its fault, or the number of a report's order
pub data Refusal : Type 0 where
  refused_line : ℕ → List ℕ → Refusal
  refused_report : ℕ → Refusal

-- Lines, numbered from 1.

abbrev pub line_events : List Line → List Asked
line_events [] = []
line_events (asking a ∷ ls) = a ∷ line_events ls
line_events (faulty f ∷ ls) = line_events ls

abbrev pub line_refusals : ℕ → List Line → List Refusal
line_refusals n [] = []
line_refusals n (asking a ∷ ls) = line_refusals (n + 1) ls
line_refusals n (faulty f ∷ ls) = refused_line n f ∷ line_refusals (n + 1) ls

-- Reports: the first of an outstanding order is taken.

abbrev pub checkable_of : ℕ → List Outstanding → Option ℕ
checkable_of order [] = None
checkable_of order (o ∷ os) = if nat_eq o.order order then Some o.checkable else checkable_of order os

abbrev pub without : ℕ → List Outstanding → List Outstanding
without order os = filter (λ o. not (nat_eq o.order order)) os

-- the orders that are still outstanding after these reports
abbrev pub still : List Reported → List Outstanding → List Outstanding
still [] os = os
still (r ∷ rs) os = still rs (without r.order os)

-- what the end of an ordered check is read as: its status and its output
abbrev pub ordered_result : ℕ → List ℕ → Event
ordered_result status output = let r = plugin_result output status in event.Result r.status false r.output r.perf

-- a report that is taken, with its order's number
pub record Taken : Type 0 where
  pub order : ℕ
  pub asked : Asked

abbrev pub taking : Reported → Option ℕ → List Taken → List Taken
taking r None ts = ts
taking r (Some c) ts = record { order = r.order; asked = record { checkable = c; event = ordered_result r.status r.output } } ∷ ts

abbrev pub taken_reports : List Outstanding → List Reported → List Taken
taken_reports os [] = []
taken_reports os (r ∷ rs) = taking r (checkable_of r.order os) (taken_reports (without r.order os) rs)

abbrev pub refusing : Reported → Option ℕ → List Refusal → List Refusal
refusing r None fs = refused_report r.order ∷ fs
refusing r (Some c) fs = fs

abbrev pub report_refusals : List Outstanding → List Reported → List Refusal
report_refusals os [] = []
report_refusals os (r ∷ rs) = refusing r (checkable_of r.order os) (report_refusals (without r.order os) rs)

-- Ticks: a HARD problem whose last entry is 60 seconds old is looked at again.

abbrev pub last_moment : List Entry → ℕ
last_moment [] = 0
last_moment (e ∷ []) = e.moment
last_moment (e ∷ f ∷ es) = last_moment (f ∷ es)

abbrev pub wants_tick : PlainCheck → List Entry → ℕ → Bool
wants_tick c history moment =
    let v = view_of c history in is_hard_problem v.hard v.state && not (nat_lt moment (last_moment history + 60))

-- the ticks of checkables from this index on, ascending
abbrev pub ticks_from : ℕ → List PlainCheck → Histories → ℕ → List Asked
ticks_from k [] before moment = []
ticks_from k (c ∷ cs) before moment =
    if wants_tick c (of_index k before) moment
    then record { checkable = k; event = event.Tick } ∷ ticks_from (suc k) cs before moment
    else ticks_from (suc k) cs before moment

abbrev pub ticks : PlainSite → Histories → ℕ → List Asked
ticks s before moment = ticks_from 0 s.checkables before moment

-- Of so many callers, the first takes the lines; reports go round by their orders, ticks by their checkables.

abbrev pub goes_to : ℕ → ℕ → ℕ → Bool
goes_to callers k n = nat_eq (n % callers) k

abbrev pub lines_to : ℕ → List Asked → List Asked
lines_to zero lines = lines
lines_to (suc k) lines = []

abbrev pub dealt_to : ℕ → List Asked → List Taken → List Asked → ℕ → List Asked
dealt_to callers lines reports ticks k =
    lines_to k lines
    ++ (map (λ t. t.asked) (filter (λ t. goes_to callers k t.order) reports)
    ++ filter (λ a. goes_to callers k a.checkable) ticks)

-- what each caller takes, in order
abbrev pub dealt : ℕ → List Asked → List Taken → List Asked → List (List Asked)
dealt callers lines reports ticks = map (dealt_to callers lines reports ticks) (from_on 0 callers)
