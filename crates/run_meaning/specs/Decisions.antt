-- Decisions: what comes of the notifications of a checkable at an entry.
use Rattle.std.specs.Prelude.{ℕ, suc, ◌+◌, ◌==◌, Bool, true, false, not, ◌&&◌, ◌||◌, List, [], ◌∷◌, ◌++◌, reverse, filter, map, slice_get, nat_eq, nat_lt, is_some, Option, Some, None, if◌then◌else◌}
use Rattle.std.specs.List.{list_any}
use Rattle.site_model.specs.PlainSite.{PlainCheck, PlainSite}
use Rattle.site_model.specs.Sets.{has_kind, has_state}
use Rattle.site_model.specs.declared.decision.Decision.{Decision}
use Rattle.site_model.specs.declared.entry.Entry.{Entry}
use Rattle.site_model.specs.declared.event.Event.{Event}
use Rattle.site_model.specs.declared.event.Event.TheVariants as event
use Rattle.site_model.specs.declared.kind_set.KindSet.{KindSet}
use Rattle.site_model.specs.declared.note_kind.NoteKind.{NoteKind}
use Rattle.site_model.specs.declared.note_kind.NoteKind.TheVariants as kind
use Rattle.site_model.specs.declared.notify_spec.NotifySpec.{NotifySpec}
use Rattle.site_model.specs.declared.outcome.Outcome.{Outcome}
use Rattle.site_model.specs.declared.outcome.Outcome.TheVariants as outcome
use Rattle.site_model.specs.declared.state.State.{State}
use Rattle.site_model.specs.declared.state_set.StateSet.{StateSet}
use Rattle.site_model.specs.declared.user_spec.UserSpec.{UserSpec}
use Rattle.site_model.specs.declared.view.View.{View}
use Rattle.run_meaning.specs.View.{view_of, is_hard_problem, is_on, is_problem, same_state, state_by, status_in}
use Rattle.run_meaning.specs.Acts.{Seen}
use Rattle.run_meaning.specs.Downtimes.{in_effect}
use Rattle.run_meaning.specs.Reachability.{for_notes, Reach, reachable, held_by_depend, held_by_host, period_holds, reach_of}

-- Kinds.

abbrev pub is_result : Event → Bool
is_result e = is_some (status_in e)

abbrev pub is_tick : Event → Bool
is_tick event.Tick = true
is_tick e = false

-- an acknowledgement that is told
abbrev pub tells_ack : Event → Bool
tells_ack (event.Ack sticky notify) = notify
tells_ack e = false

abbrev pub is_hard : View → Bool
is_hard v = is_hard_problem v.hard v.state

abbrev pub kind_where : Bool → NoteKind → List NoteKind
kind_where holds k = if holds then k ∷ [] else []

-- the kinds that an entry gives, by the views before and after it
abbrev pub kinds_of : View → View → Entry → List NoteKind
kinds_of before after e =
    kind_where ((is_result e.event || is_tick e.event) && is_hard after) kind.Problem
    ++ (kind_where (is_result e.event && (is_hard before && not (is_hard after))) kind.Recovery
    ++ (kind_where (e.taken && tells_ack e.event) kind.Acknowledgement
    ++ (kind_where (is_result e.event && (after.flapping && not before.flapping)) kind.FlappingStart
    ++ kind_where (is_result e.event && (before.flapping && not after.flapping)) kind.FlappingEnd)))

abbrev pub is_for_problem : NoteKind → Bool
is_for_problem kind.Problem = true
is_for_problem k = false

abbrev pub is_for_recovery : NoteKind → Bool
is_for_recovery kind.Recovery = true
is_for_recovery k = false

-- the kinds that tell of a state
abbrev pub tells_state : NoteKind → Bool
tells_state k = is_for_problem k || is_for_recovery k

-- a filter that isn't set takes all
abbrev pub takes_kind : Option KindSet → NoteKind → Bool
takes_kind None k = true
takes_kind (Some ks) k = has_kind ks k

abbrev pub takes_state : Option StateSet → State → Bool
takes_state None s = true
takes_state (Some ss) s = has_state ss s

-- What was sent before, looking back over entries, the newest first.

abbrev pub users_sent : Outcome → Option (List ℕ)
users_sent (outcome.Sent users) = Some users
users_sent o = None

-- to whom it was sent by two decisions
abbrev pub sent_by_both : Option (List ℕ) → Option (List ℕ) → Option (List ℕ)
sent_by_both None more = more
sent_by_both (Some us) None = Some us
sent_by_both (Some us) (Some more) = Some (us ++ more)

-- to whom Problems of this notification were sent by these decisions, by all of them
abbrev pub problem_sent : ℕ → List Decision → Option (List ℕ)
problem_sent n [] = None
problem_sent n (d ∷ ds) =
    sent_by_both (if nat_eq d.notification n && is_for_problem d.kind then users_sent d.outcome else None) (problem_sent n ds)

-- the last moment, from this one on, at which a Problem of this notification was sent
abbrev pub sent_since : ℕ → ℕ → List Entry → Option ℕ
sent_since n from [] = None
sent_since n from (e ∷ back) =
    if not (nat_lt e.moment from) && is_some (problem_sent n e.decisions) then Some e.moment else sent_since n from back

abbrev pub is_well : PlainCheck → Option ℕ → Bool
is_well c None = false
is_well c (Some s) = not (is_problem (state_by c.host s))

abbrev pub is_among : ℕ → Option (List ℕ) → Bool
is_among u None = false
is_among u (Some us) = list_any (nat_eq u) us

-- whether this user received a Problem of this notification since the last result without a problem
abbrev pub has_received : PlainCheck → ℕ → ℕ → List Entry → Bool
has_received c n u [] = false
has_received c n u (e ∷ back) =
    not (is_well c (status_in e.event)) && (is_among u (problem_sent n e.decisions) || has_received c n u back)

-- Outcomes.

-- all that decides: the checkable, its entries before, the entry, the views before and after it, what holds
-- notifications back, and the downtime in effect
pub record Case : Type 0 where
  pub check : PlainCheck
  pub history : List Entry
  pub entry : Entry
  pub before : View
  pub after : View
  pub reach : Reach
  pub downtime : Option ℕ

-- a result made it a HARD problem, changed its state, or came to a volatile checkable
abbrev pub is_fresh : Case → Bool
is_fresh x =
    is_result x.entry.event && (not (is_hard x.before && same_state x.before.state x.after.state) || x.check.volatile)

-- so long after the change; whole numbers without a limit
abbrev pub is_early : Case → Option ℕ → Bool
is_early x None = false
is_early x (Some begin) = nat_lt x.entry.moment (x.after.change + begin)

abbrev pub is_late : Case → Option ℕ → Bool
is_late x None = false
is_late x (Some «end») = nat_lt (x.after.change + «end») x.entry.moment

abbrev pub is_within : ℕ → ℕ → Option ℕ → Bool
is_within moment interval None = false
is_within moment interval (Some sent) = (interval == 0) || nat_lt moment (sent + interval)

-- it was sent since the change, and its interval isn't over
abbrev pub is_repeat : Case → ℕ → NotifySpec → Bool
is_repeat x n note =
    not (is_fresh x) && is_within x.entry.moment note.interval (sent_since n x.after.change (reverse x.history))

abbrev pub receives : (ℕ → ℕ → Bool) → Case → ℕ → NoteKind → ℕ → Option UserSpec → Bool
receives holds x n k u None = false
receives holds x n k u (Some user) =
    user.enabled
    && (period_holds holds user.period x.entry.moment
    && (takes_kind user.kinds k
    && ((not (tells_state k) || takes_state user.states x.after.state)
    && (not (is_for_recovery k) || has_received x.check n u (reverse x.history)))))

abbrev pub receivers : PlainSite → (ℕ → ℕ → Bool) → Case → ℕ → NotifySpec → NoteKind → List ℕ
receivers s holds x n note k = filter (λ u. receives holds x n k u (slice_get s.users u)) note.users

abbrev pub sent_to : List ℕ → Outcome
sent_to [] = outcome.NoUsers
sent_to (u ∷ us) = outcome.Sent (u ∷ us)

abbrev pub where_so : Bool → Outcome → Option Outcome
where_so holds o = if holds then Some o else None

abbrev pub held_so : Reach → Option Outcome
held_so reachable = None
held_so (held_by_depend d) = Some (outcome.Dependency d)
held_so (held_by_host h) = Some (outcome.Host h)

abbrev pub downtime_so : Option ℕ → Option Outcome
downtime_so None = None
downtime_so (Some n) = Some (outcome.Downtime n)

abbrev pub first_or : Outcome → List (Option Outcome) → Outcome
first_or last [] = last
first_or last (None ∷ os) = first_or last os
first_or last (Some o ∷ os) = o

-- what comes of a notification and a kind: the first that holds
abbrev pub outcome_of : PlainSite → (ℕ → ℕ → Bool) → Case → ℕ → NotifySpec → NoteKind → Outcome
outcome_of s holds x n note k =
    first_or (sent_to (receivers s holds x n note k))
    (where_so (not x.after.notes_on) outcome.Disabled
    ∷ held_so x.reach
    ∷ downtime_so x.downtime
    ∷ where_so (tells_state k && x.after.flapping) outcome.Flapping
    ∷ where_so (is_for_problem k && is_on x.after.ack) outcome.Acknowledged
    ∷ where_so (not (period_holds holds note.period x.entry.moment)) outcome.Period
    ∷ where_so (not (takes_kind note.kinds k)) outcome.Kind
    ∷ where_so (tells_state k && not (takes_state note.states x.after.state)) outcome.State
    ∷ where_so (is_for_problem k && is_early x note.begin) outcome.TooEarly
    ∷ where_so (is_for_problem k && is_late x note.«end») outcome.TooLate
    ∷ where_so (is_for_problem k && is_repeat x n note) outcome.Repeat
    ∷ [])

-- the decisions on these notifications, from this index on, of the checkable of index c
abbrev pub decided_from : PlainSite → (ℕ → ℕ → Bool) → Case → ℕ → ℕ → List NotifySpec → List Decision
decided_from s holds x c n [] = []
decided_from s holds x c n (note ∷ notes) =
    (if nat_eq note.checkable c then map (λ k. record { notification = n; kind = k; outcome = outcome_of s holds x n note k }) (kinds_of x.before x.after x.entry) else [])
    ++ decided_from s holds x c (suc n) notes

-- what is decided at an entry, by those before it and by what its ancestors show
abbrev pub decisions_of : PlainSite → (ℕ → ℕ → Bool) → ℕ → PlainCheck → List Entry → Entry → List Seen → List Decision
decisions_of s holds c check history e seen =
    decided_from s holds (record {
      check = check;
      history = history;
      entry = e;
      before = view_of check history;
      after = view_of check (history ++ e ∷ []);
      reach = reach_of (record { site = s; holds = holds; purpose = for_notes; moment = e.moment; seen = seen }) c;
      downtime = in_effect check (history ++ e ∷ []) e.moment;
    }) c 0 s.notifies
