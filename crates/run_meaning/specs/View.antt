-- The view of a checkable: what its entries so far show, by looking back from the newest.
use Rattle.std.specs.Prelude.{ℕ, ◌+◌, ◌-◌, ◌*◌, ◌==◌, ◌&&◌, List, [], ◌∷◌, length, reverse, take, Bool, true, false, not, nat_lt, min, Option, Some, None, is_some, if◌then◌else◌}
use Rattle.site_model.specs.PlainSite.{PlainCheck}
use Rattle.site_model.specs.declared.ack.Ack.{Ack}
use Rattle.site_model.specs.declared.ack.Ack.TheVariants as ack
use Rattle.site_model.specs.declared.entry.Entry.{Entry}
use Rattle.site_model.specs.declared.event.Event.{Event}
use Rattle.site_model.specs.declared.event.Event.TheVariants as event
use Rattle.site_model.specs.declared.state.State.{State}
use Rattle.site_model.specs.declared.state.State.TheVariants as state
use Rattle.site_model.specs.declared.view.View.{View}

-- States.

-- what a service's status means
abbrev pub service_state : ℕ → State
service_state s =
    if s == 0 then state.Okay
    else if s == 1 then state.Warning
    else if s == 2 then state.Critical
    else state.Unknown

-- what a host's status means
abbrev pub host_state : ℕ → State
host_state s = if nat_lt s 2 then state.Up else state.Down

-- the state of a host, or of a service of one, at this status
abbrev pub state_by : Option ℕ → ℕ → State
state_by None s = host_state s
state_by (Some host) s = service_state s

-- the state before any result
abbrev pub state_unchecked : Option ℕ → State
state_unchecked None = state.Up
state_unchecked (Some host) = state.Okay

abbrev pub best_state : PlainCheck → State
best_state c = state_unchecked c.host

-- each state but the good ones is a problem
abbrev pub is_problem : State → Bool
is_problem state.Okay = false
is_problem state.Up = false
is_problem s = true

-- a problem that is HARD
abbrev pub is_hard_problem : Bool → State → Bool
is_hard_problem hard s = hard && is_problem s

abbrev pub same_state : State → State → Bool
same_state state.Okay state.Okay = true
same_state state.Warning state.Warning = true
same_state state.Critical state.Critical = true
same_state state.Unknown state.Unknown = true
same_state state.Up state.Up = true
same_state state.Down state.Down = true
same_state s t = false

-- Looking back over entries, the newest first.

-- the status of a result
abbrev pub status_in : Event → Option ℕ
status_in (event.Result status passive output perf) = Some status
status_in e = None

abbrev pub or_before : Option ℕ → Option ℕ → Option ℕ
or_before None before = before
or_before (Some s) before = Some s

-- the status of the last result
abbrev pub last_status : List Entry → Option ℕ
last_status [] = None
last_status (e ∷ back) = or_before (status_in e.event) (last_status back)

abbrev pub state_after : PlainCheck → Option ℕ → State
state_after c None = best_state c
state_after c (Some s) = state_by c.host s

-- the state by the last result
abbrev pub state_of : PlainCheck → List Entry → State
state_of c back = state_after c (last_status back)

-- how many problem results stand at the end, after one more status
abbrev pub problems_with : PlainCheck → Option ℕ → ℕ → ℕ
problems_with c None n = n
problems_with c (Some s) n = if is_problem (state_by c.host s) then n + 1 else 0

-- how many results at the end are problems
abbrev pub problems : PlainCheck → List Entry → ℕ
problems c [] = 0
problems c (e ∷ back) = problems_with c (status_in e.event) (problems c back)

-- so many problems in a row are HARD, unless they are too few
abbrev pub hard_at : PlainCheck → ℕ → Bool
hard_at c n = not (nat_lt 0 n && (nat_lt n c.max && not c.volatile))

abbrev pub attempt_at : PlainCheck → ℕ → ℕ
attempt_at c n = if n == 0 then 1 else min n c.max

-- these entries leave a HARD problem
abbrev pub leave_hard_problem : PlainCheck → List Entry → Bool
leave_hard_problem c back = is_hard_problem (hard_at c (problems c back)) (state_of c back)

-- the newest entry is a result that made a HARD problem, or changed its state
abbrev pub changes : PlainCheck → Entry → List Entry → Bool
changes c e back =
    is_some (status_in e.event)
    && (leave_hard_problem c (e ∷ back) && not (leave_hard_problem c back && same_state (state_of c back) (state_of c (e ∷ back))))

-- the moment of the last result that did so
abbrev pub change : PlainCheck → List Entry → ℕ
change c [] = 0
change c (e ∷ back) = if changes c e back then e.moment else change c back

-- an acknowledgement after a result: a normal one lasts while the state stays, a sticky one while there is a problem
abbrev pub ack_after : State → State → Ack → Ack
ack_after before after ack.Off = ack.Off
ack_after before after ack.Normal = if is_problem after && same_state before after then ack.Normal else ack.Off
ack_after before after ack.Sticky = if is_problem after then ack.Sticky else ack.Off

abbrev pub ack_given : Bool → Ack
ack_given true = ack.Sticky
ack_given false = ack.Normal

-- an acknowledgement after an event that was taken or void, with the state before it
abbrev pub ack_with : PlainCheck → Event → Bool → State → Ack → Ack
ack_with c (event.Result status passive output perf) taken before a = ack_after before (state_by c.host status) a
ack_with c (event.Ack sticky notify) true before a = ack_given sticky
ack_with c event.Unack true before a = ack.Off
ack_with c e taken before a = a

-- the acknowledgement that is in force
abbrev pub ack_of : PlainCheck → List Entry → Ack
ack_of c [] = ack.Off
ack_of c (e ∷ back) = ack_with c e.event e.taken (state_of c back) (ack_of c back)

-- Switches.

-- to what an event switches active checks
abbrev pub checks_in : Event → Option Bool
checks_in (event.Checks on) = Some on
checks_in e = None

-- to what an event switches notifications
abbrev pub notes_in : Event → Option Bool
notes_in (event.Notes on) = Some on
notes_in e = None

abbrev pub switched_to : Option Bool → Bool → Bool
switched_to None before = before
switched_to (Some on) before = on

-- as the last switch left it; on, if there is none
abbrev pub switched : (Event → Option Bool) → List Entry → Bool
switched switch [] = true
switched switch (e ∷ back) = switched_to (switch e.event) (switched switch back)

-- Flapping.

-- a result of this status is a change where the one before it has another state
abbrev pub is_change : PlainCheck → ℕ → List Entry → Bool
is_change c s back = is_some (last_status back) && not (same_state (state_of c back) (state_by c.host s))

abbrev pub change_with : PlainCheck → Option ℕ → List Entry → List Bool → List Bool
change_with c None back slots = slots
change_with c (Some s) back slots = is_change c s back ∷ slots

-- whether each result is a change
abbrev pub changes_back : PlainCheck → List Entry → List Bool
changes_back c [] = []
changes_back c (e ∷ back) = change_with c (status_in e.event) back (changes_back c back)

-- the weight of the changes from slot j on: that of slot j is 120 - 2j
abbrev pub weight_from : ℕ → List Bool → ℕ
weight_from j [] = 0
weight_from j (change ∷ slots) = (if change then 120 - 2 * j else 0) + weight_from (j + 1) slots

-- how much the state changed in the last twenty results, in thousandths of a percent
abbrev pub flapping_value : PlainCheck → List Entry → ℕ
flapping_value c back = 50 * weight_from 1 (take 20 (changes_back c back))

abbrev pub flapping_at : PlainCheck → ℕ → Bool → Bool
flapping_at c value before = if nat_lt c.high value then true else if nat_lt value c.low then false else before

abbrev pub flapping_with : PlainCheck → Option ℕ → ℕ → Bool → Bool
flapping_with c None value before = before
flapping_with c (Some s) value before = flapping_at c value before

-- by the last result after which the value was above `high` or below `low`
abbrev pub flapping_back : PlainCheck → List Entry → Bool
flapping_back c [] = false
flapping_back c (e ∷ back) = flapping_with c (status_in e.event) (flapping_value c (e ∷ back)) (flapping_back c back)

abbrev pub view_back : PlainCheck → List Entry → View
view_back c back = record {
  count = length back;
  has_result = is_some (last_status back);
  state = state_of c back;
  hard = hard_at c (problems c back);
  attempt = attempt_at c (problems c back);
  change = change c back;
  ack = ack_of c back;
  checks_on = c.active && switched checks_in back;
  notes_on = c.notify && switched notes_in back;
  flapping = c.flapping && flapping_back c back;
}

-- the view of a checkable after these entries, the oldest first
abbrev pub view_of : PlainCheck → List Entry → View
view_of c history = view_back c (reverse history)

-- Commands that may be void.

abbrev pub is_on : Ack → Bool
is_on ack.Off = false
is_on a = true

-- whether an event has an effect where a checkable is seen so: an acknowledgement wants a problem, and its end wants one
-- in force; whether a downtime can be ended is told by its book
abbrev pub has_effect : View → Event → Bool
has_effect v (event.Ack sticky notify) = is_problem v.state
has_effect v event.Unack = is_on v.ack
has_effect v e = true
