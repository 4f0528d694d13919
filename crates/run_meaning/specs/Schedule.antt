-- Schedule: which checks are ordered after a round.
use Rattle.std.specs.Prelude.{ℕ, zero, suc, ◌+◌, ◌==◌, min, Bool, true, false, not, ◌&&◌, ◌||◌, List, [], ◌∷◌, ◌++◌, length, filter, map, slice_get, nat_eq, nat_lt, nat_le, Option, Some, None, if◌then◌else◌}
use Rattle.std.specs.List.{list_any}
use Rattle.site_model.specs.PlainSite.{PlainCheck, PlainSite}
use Rattle.site_model.specs.declared.entry.Entry.{Entry}
use Rattle.site_model.specs.declared.event.Event.{Event}
use Rattle.site_model.specs.declared.event.Event.TheVariants as event
use Rattle.site_model.specs.declared.view.View.{View}
use Rattle.run_meaning.specs.View.{view_of, is_problem}
use Rattle.run_meaning.specs.Turns.{Command, Histories, Ordered, Outstanding, Planned, Plans, Slot, of_index}
use Rattle.run_meaning.specs.Acts.{Seen}
use Rattle.run_meaning.specs.Reachability.{Outlook, for_checks, is_held, period_holds, reach_of}

-- a sum stops at the greatest moment
abbrev pub later_by : ℕ → ℕ → ℕ
later_by moment secs = min (moment + secs) 99999999999

-- What a round does to a checkable's slot.

-- a checkable's slot, and whether an order of it is outstanding
pub record Watch : Type 0 where
  pub slot : Slot
  pub waiting : Bool

-- when a checkable that shows this is to be checked again: a SOFT problem sooner
abbrev pub again_at : PlainCheck → View → ℕ → ℕ
again_at c v moment = later_by moment (if is_problem v.state && not v.hard then c.retry_secs else c.check_secs)

-- after an event at a moment, which leaves this view: a report's result counts and ends the waiting; a passive one and a
-- Check count where nothing is outstanding
abbrev pub watch_with : PlainCheck → View → ℕ → Event → Watch → Watch
watch_with c v moment (event.Result status passive output perf) w =
    if passive && w.waiting then w else record { slot = record { next = again_at c v moment; forced = w.slot.forced }; waiting = false }
watch_with c v moment (event.Check at forced) w =
    if w.waiting then w else record { slot = record { next = at; forced = w.slot.forced || forced }; waiting = false }
watch_with c v moment e w = w

-- after a checkable's entries of a round, behind those before it
abbrev pub watch_from : PlainCheck → List Entry → List Entry → Watch → Watch
watch_from c history [] w = w
watch_from c history (e ∷ es) w =
    watch_from c (history ++ e ∷ []) es (watch_with c (view_of c (history ++ e ∷ [])) e.moment e.event w)

abbrev pub is_waiting : List Outstanding → ℕ → Bool
is_waiting os c = list_any (λ o. nat_eq o.checkable c) os

-- of the checkables from this index on
abbrev pub watches_from : ℕ → List PlainCheck → List Slot → List Outstanding → Histories → Histories → List Watch
watches_from k (c ∷ cs) (s ∷ ss) os before round =
    watch_from c (of_index k before) (of_index k round) (record { slot = s; waiting = is_waiting os k }) ∷ watches_from (suc k) cs ss os before round
watches_from k cs ss os before round = []

-- Which are due.

-- a checkable that is due since a moment
pub record Due : Type 0 where
  pub since : ℕ
  pub checkable : ℕ

-- it is due earlier, or at the same moment and has the lower index
abbrev pub goes_first : Due → Due → Bool
goes_first d e = nat_lt d.since e.since || ((d.since == e.since) && nat_lt d.checkable e.checkable)

abbrev pub put_due : Due → List Due → List Due
put_due d [] = d ∷ []
put_due d (e ∷ es) = if goes_first d e then d ∷ e ∷ es else e ∷ put_due d es

-- those from this index on that are due at a moment, in their order
abbrev pub due_from : ℕ → ℕ → List Watch → List Due
due_from moment k [] = []
due_from moment k (w ∷ ws) =
    if not w.waiting && nat_le w.slot.next moment
    then put_due (record { since = w.slot.next; checkable = k }) (due_from moment (suc k) ws)
    else due_from moment (suc k) ws

-- The walk over them.

-- how far it has come: the orders, the slots, how many orders were given in all, and how many are outstanding
pub record Walk : Type 0 where
  pub orders : List Ordered
  pub slots : List Slot
  pub given : ℕ
  pub outstanding : ℕ

-- with the slot of this index changed
abbrev pub with_change : ℕ → (Slot → Slot) → List Slot → List Slot
with_change k f [] = []
with_change zero f (s ∷ ss) = f s ∷ ss
with_change (suc k) f (s ∷ ss) = s ∷ with_change k f ss

abbrev pub is_forced : Option Slot → Bool
is_forced None = false
is_forced (Some s) = s.forced

-- the checkable is held back: its active checks are off, its period doesn't hold, or it isn't reached
abbrev pub is_off : Outlook → ℕ → PlainCheck → Option View → Bool
is_off o k c None = true
is_off o k c (Some v) = not v.checks_on || (not (period_holds o.holds c.period o.moment) || is_held (reach_of o k))

-- an order of the checkable, which clears its force
abbrev pub ordering : (ℕ → Command) → ℕ → Walk → Walk
ordering command k w = record {
  orders = w.orders ++ record { number = w.given + 1; checkable = k; command = command k } ∷ [];
  slots = with_change k (λ s. record s { forced = false }) w.slots;
  given = w.given + 1;
  outstanding = w.outstanding + 1;
}

-- a skip, after which it is due an interval later
abbrev pub skipping : PlainCheck → ℕ → ℕ → Walk → Walk
skipping c k moment w = record w { slots = with_change k (λ s. record s { next = later_by moment c.check_secs }) w.slots }

abbrev pub view_of_index : ℕ → List Seen → Option View
view_of_index k xs = view_in (slice_get xs k)
  where
    view_in : Option Seen → Option View
    view_in None = None
    view_in (Some x) = Some x.view

-- whether one that is due gets an order: it is forced, or nothing holds it back
abbrev pub gets_order : Outlook → Due → PlainCheck → Walk → Bool
gets_order o d c w = is_forced (slice_get w.slots d.checkable) || not (is_off o d.checkable c (view_of_index d.checkable o.seen))

abbrev pub walk_with : (ℕ → Command) → Outlook → Due → Option PlainCheck → Walk → Walk
walk_with command o d None w = w
walk_with command o d (Some c) w = if gets_order o d c w then ordering command d.checkable w else skipping c d.checkable o.moment w

-- over the due ones, until as many orders are outstanding as may be
abbrev pub walk_over : (ℕ → Command) → Outlook → List Due → Walk → Walk
walk_over command o [] w = w
walk_over command o (d ∷ ds) w =
    if nat_lt w.outstanding o.site.max_orders
    then walk_over command o ds (walk_with command o d (slice_get o.site.checkables d.checkable) w)
    else w

-- what each checkable from this index on shows after a round
abbrev pub seen_after : ℕ → List PlainCheck → Histories → Histories → List Seen
seen_after k [] before round = []
seen_after k (c ∷ cs) before round =
    record { checkable = k; view = view_of c (of_index k before ++ of_index k round) } ∷ seen_after (suc k) cs before round

-- what the walk goes by
abbrev pub outlook_after : PlainSite → (ℕ → ℕ → Bool) → ℕ → Histories → Histories → Outlook
outlook_after s holds moment before round =
    record { site = s; holds = holds; purpose = for_checks; moment = moment; seen = seen_after 0 s.checkables before round }

abbrev pub watches_after : PlainSite → Plans → Histories → Histories → List Watch
watches_after s plans before round = watches_from 0 s.checkables plans.slots plans.outstanding before round

-- where the walk begins
abbrev pub walk_from : Plans → List Watch → Walk
walk_from plans watches = record {
  orders = [];
  slots = map (λ x. x.slot) watches;
  given = plans.given;
  outstanding = length (filter (λ x. x.waiting) watches);
}

-- what is ordered after a round at a moment
abbrev pub schedule : PlainSite → (ℕ → ℕ → Bool) → (ℕ → Command) → Plans → ℕ → Histories → Histories → Planned
schedule s holds command plans moment before round =
    let watches = watches_after s plans before round in
    let w = walk_over command (outlook_after s holds moment before round) (due_from moment 0 watches) (walk_from plans watches) in
    record { orders = w.orders; slots = w.slots }
