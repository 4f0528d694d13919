-- When a checkable is to be checked next, by looking back over what came to it in a run, the newest first.
use Rattle.std.specs.Prelude.{◌≡◌, ℕ, Bool, true, false, not, ◌&&◌, ◌||◌, List, [], ◌∷◌, ◌++◌, nat_eq, nat_lt, slice_get, Option, Some, None, if◌then◌else◌}
use Rattle.std.specs.List.{list_any}
use Rattle.site_model.specs.PlainSite.{PlainCheck, PlainSite}
use Rattle.site_model.specs.declared.entry.Entry.{Entry}
use Rattle.site_model.specs.declared.event.Event.{Event}
use Rattle.site_model.specs.declared.event.Event.TheVariants as event
use Rattle.site_model.specs.declared.view.View.{View}
use Rattle.run_meaning.specs.View.{view_of}
use Rattle.run_meaning.specs.Turns.{Begun, Command, Feed, Line, ReadTurn, Slot, is_command, of_index}
use Rattle.run_meaning.specs.Dealing.{line_events}
use Rattle.run_meaning.specs.Reachability.{Outlook}
use Rattle.run_meaning.specs.Runs.{Stage, TurnLog, stage_after}
use Rattle.run_meaning.specs.Meaning.{basis_of}
use Rattle.run_meaning.specs.Schedule.{Due, Walk, again_at, due_from, gets_order, later_by, outlook_after, walk_from, walk_with, watches_after}

-- what came to a checkable: an event at a moment, which left a view; an order; a skip at a moment
pub data Mark : Type 0 where
  happened : ℕ → Event → View → Mark
  ordered : Mark
  skipped : ℕ → Mark

-- an order is outstanding up to the entry of its report

abbrev pub waits_after : Event → Bool → Bool
waits_after (event.Result status passive output perf) waiting = passive && waiting
waits_after e waiting = waiting

abbrev pub is_outstanding : List Mark → Bool
is_outstanding [] = false
is_outstanding (happened moment e v ∷ back) = waits_after e (is_outstanding back)
is_outstanding (ordered ∷ back) = true
is_outstanding (skipped moment ∷ back) = is_outstanding back

-- to what an event sets the next moment: a report's result always, a passive one and a Check where nothing is outstanding
abbrev pub set_by : PlainCheck → ℕ → View → Bool → Event → Option ℕ
set_by c moment v waiting (event.Result status passive output perf) = if passive && waiting then None else Some (again_at c v moment)
set_by c moment v waiting (event.Check at forced) = if waiting then None else Some at
set_by c moment v waiting e = None

-- a skip sets it too, an order doesn't
abbrev pub set_in : PlainCheck → Mark → List Mark → Option ℕ
set_in c (happened moment e v) back = set_by c moment v (is_outstanding back) e
set_in c ordered back = None
set_in c (skipped moment) back = Some (later_by moment c.check_secs)

abbrev pub or_before : Option ℕ → ℕ → ℕ
or_before None before = before
or_before (Some next) before = next

-- what the last of these set; 0 before any
abbrev pub next_back : PlainCheck → List Mark → ℕ
next_back c [] = 0
next_back c (x ∷ back) = or_before (set_in c x back) (next_back c back)

-- a forced Check that counts
abbrev pub forces : Event → Bool → Bool
forces (event.Check at forced) waiting = not waiting && forced
forces e waiting = false

-- some stands after the last order
abbrev pub forced_back : List Mark → Bool
forced_back [] = false
forced_back (happened moment e v ∷ back) = forced_back back || forces e (is_outstanding back)
forced_back (ordered ∷ back) = false
forced_back (skipped moment ∷ back) = forced_back back

abbrev pub slot_back : PlainCheck → List Mark → Slot
slot_back c back = record { next = next_back c back; forced = forced_back back }

-- What a turn brings to a checkable, the oldest first.

-- its entries in a round
abbrev pub marks_of : PlainCheck → List Entry → List Entry → List Mark
marks_of c history [] = []
marks_of c history (e ∷ es) = happened e.moment e.event (view_of c (history ++ e ∷ [])) ∷ marks_of c (history ++ e ∷ []) es

-- what the walk over the due ones does to one of them
pub record Step : Type 0 where
  pub checkable : ℕ
  pub mark : Mark

abbrev pub step_with : Outlook → Due → Walk → Option PlainCheck → List Step → List Step
step_with o d w None steps = steps
step_with o d w (Some c) steps = record { checkable = d.checkable; mark = if gets_order o d c w then ordered else skipped o.moment } ∷ steps

abbrev pub steps_over : (ℕ → Command) → Outlook → List Due → Walk → List Step
steps_over command o [] w = []
steps_over command o (d ∷ ds) w =
    if nat_lt w.outstanding o.site.max_orders
    then step_with o d w (slice_get o.site.checkables d.checkable) (steps_over command o ds (walk_with command o d (slice_get o.site.checkables d.checkable) w))
    else []

-- what it does to the checkable of this index
abbrev pub marks_on : ℕ → List Step → List Mark
marks_on k [] = []
marks_on k (x ∷ xs) = if nat_eq x.checkable k then x.mark ∷ marks_on k xs else marks_on k xs

-- the walk of a turn
abbrev pub steps_in : PlainSite → (ℕ → ℕ → Bool) → (ℕ → Command) → Stage → TurnLog → List Step
steps_in s holds command st l =
    let watches = watches_after s st.plans st.histories l.round in
    steps_over command (outlook_after s holds l.moment st.histories l.round) (due_from l.moment 0 watches) (walk_from st.plans watches)

-- The same, behind what came before.

-- these marks, the oldest first, after those
abbrev pub since : List Mark → List Mark → List Mark
since back [] = back
since back (x ∷ xs) = since (x ∷ back) xs

-- what came to the checkable of index k by the end of a turn
abbrev pub back_after : PlainSite → (ℕ → ℕ → Bool) → (ℕ → Command) → Stage → TurnLog → ℕ → PlainCheck → List Mark → List Mark
back_after s holds command st l k c back =
    since (since back (marks_of c (of_index k st.histories) (of_index k l.round))) (marks_on k (steps_in s holds command st l))

-- by the end of these turns
abbrev pub back_by : PlainSite → (ℕ → ℕ → Bool) → (ℕ → Command) → Feed → ℕ → PlainCheck → List Mark → Stage → List ReadTurn → List TurnLog → List Mark
back_by s holds command feed k c back st [] ls = back
back_by s holds command feed k c back st (t ∷ ts) [] = back
back_by s holds command feed k c back st (t ∷ ts) (l ∷ ls) =
    back_by s holds command feed k c (back_after s holds command st l k c back) (stage_after (basis_of s holds command feed) st t l) ts ls

-- Lines ask for what a command can ask for alone.

abbrev pub ask_commands : List Line → Bool
ask_commands ls = not (list_any (λ a. not (is_command a.event)) (line_events ls))

-- those of these turns and all that are fed
pub record AskCommands (feed : Feed) (ts : List ReadTurn) : Type 0 where
  pub fed : (begun : List Begun) → ask_commands (feed begun) ≡ true
  pub own : (i : ℕ) (t : ReadTurn) → slice_get ts i ≡ Some t → ask_commands t.lines ≡ true
