-- What the code asks, as a case of the definition.
use Rattle.std.specs.Prelude.{◌≡◌, ℕ, ◌&&◌, ◌||◌, not, nat_lt, ◌++◌, Bool, true, false, List, [], ◌∷◌, map, slice_get, Option, Some, None, if◌then◌else◌}
use Rattle.jiff_tz.specs.declared.tzif.Tzif.{Tzif}
use Rattle.site_model.specs.PlainSite.{PlainCheck, PlainSite}
use Rattle.site_model.specs.declared.decision.Decision.{Decision}
use Rattle.site_model.specs.declared.entry.Entry.{Entry}
use Rattle.site_model.specs.declared.event.Event.{Event}
use Rattle.site_model.specs.declared.note_kind.NoteKind.{NoteKind}
use Rattle.site_model.specs.declared.notify_spec.NotifySpec.{NotifySpec}
use Rattle.site_model.specs.declared.outcome.Outcome.{Outcome}
use Rattle.site_model.specs.declared.outcome.Outcome.TheVariants as outcome
use Rattle.site_model.specs.declared.view.View.{View}
use Rattle.run_meaning.specs.Acts.{Seen}
use Rattle.run_meaning.specs.Decisions.{Case, is_fresh, is_hard, is_result, is_tick, tells_ack, is_for_problem, is_early, is_late, is_repeat, tells_state, takes_kind, takes_state, where_so, held_so, downtime_so, outcome_of}
use Rattle.run_meaning.specs.Downtimes.{in_effect}
use Rattle.run_meaning.specs.Reachability.{for_notes, period_holds, reach_of}
use Rattle.run_meaning.specs.View.{is_on, view_of}
use Rattle.depend_graph.specs.Outlooks.{holds_in}
use Rattle.depend_graph.specs.Reaching.{reach_as}
use Rattle.notify_rules.specs.declared.asked.Asked.{Asked}
use Rattle.depend_graph.specs.declared.reach.Reach.{Reach}

abbrev pub has_any : {X : Type 0} → List X → Bool
has_any [] = false
has_any (x ∷ xs) = true

-- whether an event gives any kind, by the views before and after it
abbrev pub gives_kinds : View → View → Event → Bool → Bool
gives_kinds before after v taken =
    ((((((is_result v || is_tick v) && is_hard after)
    || (is_result v && (is_hard before && not (is_hard after))))
    || (taken && tells_ack v))
    || (is_result v && (after.flapping && not before.flapping)))
    || (is_result v && (before.flapping && not after.flapping)))

-- what is asked is this case
pub record IsCase (a : Asked) (x : Case) : Type 0 where
  pub after : a.after ≡ x.after
  pub fresh : a.fresh ≡ is_fresh x
  pub reach : reach_as a.reach ≡ x.reach
  pub downtime : a.downtime ≡ x.downtime
  pub moment : a.moment ≡ x.entry.moment

-- the first of these causes that holds, if one does
abbrev pub first_in : List (Option Outcome) → Option Outcome
first_in [] = None
first_in (None ∷ os) = first_in os
first_in (Some o ∷ os) = Some o

-- the causes that hold each notification of an entry back
abbrev pub common_causes : Case → NoteKind → List (Option Outcome)
common_causes x k =
    where_so (not x.after.notes_on) outcome.Disabled
    ∷ held_so x.reach
    ∷ downtime_so x.downtime
    ∷ where_so (tells_state k && x.after.flapping) outcome.Flapping
    ∷ where_so (is_for_problem k && is_on x.after.ack) outcome.Acknowledged
    ∷ []

-- those of one notification, and of problems alone
abbrev pub problem_causes : Case → ℕ → NotifySpec → NoteKind → List (Option Outcome)
problem_causes x n note k =
    where_so (is_for_problem k && is_early x note.begin) outcome.TooEarly
    ∷ where_so (is_for_problem k && is_late x note.«end») outcome.TooLate
    ∷ where_so (is_for_problem k && is_repeat x n note) outcome.Repeat
    ∷ []

-- those of one notification
abbrev pub own_causes : (ℕ → ℕ → Bool) → Case → ℕ → NotifySpec → NoteKind → List (Option Outcome)
own_causes holds x n note k =
    where_so (not (period_holds holds note.period x.entry.moment)) outcome.Period
    ∷ where_so (not (takes_kind note.kinds k)) outcome.Kind
    ∷ where_so (tells_state k && not (takes_state note.states x.after.state)) outcome.State
    ∷ problem_causes x n note k

-- the last moment at which a problem was sent, if that is from this one on
abbrev pub sent_from : ℕ → Option ℕ → Option ℕ
sent_from from None = None
sent_from from (Some sent) = if nat_lt sent from then None else Some sent

-- what is asked is what has to be decided at an entry of the checkable of index c, by those before it and by what its
-- ancestors showed
pub record Asks (s : PlainSite) (zone : Option Tzif) (c : ℕ) (check : PlainCheck) (history : List Entry) (e : Entry) (seen : List Seen) (was is : View) (v : Event) (said : Bool) (down : Option ℕ) (answer : Reach) (at : ℕ) : Type 0 where
  pub event : e.event ≡ v
  pub taken : e.taken ≡ said
  pub moment : e.moment ≡ at
  pub before : was ≡ view_of check history
  pub after : is ≡ view_of check (history ++ e ∷ [])
  pub reach : reach_as answer ≡ reach_of (record { site = s; holds = holds_in s zone; purpose = for_notes; moment = e.moment; seen = seen }) c
  pub downtime : down ≡ in_effect check (history ++ e ∷ []) e.moment

-- what is decided on one notification
abbrev pub decided_for : PlainSite → (ℕ → ℕ → Bool) → Case → List NoteKind → ℕ → NotifySpec → List Decision
decided_for s holds x kinds n note = map (λ k. record { notification = n; kind = k; outcome = outcome_of s holds x n note k }) kinds

abbrev pub decided_where : PlainSite → (ℕ → ℕ → Bool) → Case → List NoteKind → ℕ → Option NotifySpec → List Decision
decided_where s holds x kinds n None = []
decided_where s holds x kinds n (Some note) = decided_for s holds x kinds n note

-- what is decided on the notifications of these indices
abbrev pub decided_on : PlainSite → (ℕ → ℕ → Bool) → Case → List NoteKind → List ℕ → List Decision
decided_on s holds x kinds [] = []
decided_on s holds x kinds (n ∷ ns) = decided_where s holds x kinds n (slice_get s.notifies n) ++ decided_on s holds x kinds ns
