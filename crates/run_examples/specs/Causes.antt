-- A problem whose notification all causes suppress at once, and the same with the first so many of them taken away.
use Rattle.std.specs.Prelude.{ℕ, Bool, true, false, not, nat_le, [], ◌∷◌, Some, None, if◌then◌else◌}
use Rattle.site_model.specs.PlainSite.{PlainSite}
use Rattle.site_model.specs.declared.ack.Ack.TheVariants as ack
use Rattle.site_model.specs.declared.event.Event.TheVariants as event
use Rattle.site_model.specs.declared.note_kind.NoteKind.TheVariants as kind
use Rattle.site_model.specs.declared.notify_spec.NotifySpec.{NotifySpec}
use Rattle.site_model.specs.declared.outcome.Outcome.{Outcome}
use Rattle.site_model.specs.declared.state.State.TheVariants as state
use Rattle.site_model.specs.declared.view.View.{View}
use Rattle.run_meaning.specs.Decisions.{Case, outcome_of}
use Rattle.run_meaning.specs.Reachability.{held_by_depend, reachable}
use Rattle.run_examples.specs.Histories.{at, deciding}
use Rattle.run_examples.specs.Outlooks.{only, well}
use Rattle.run_examples.specs.Rows.{sent}
use Rattle.run_examples.specs.Sites.{holds, notification, service, site_with, user}
use Rattle.run_examples.specs.Turns.{of_status}

-- whether the cause of this number is among the first n
abbrev pub is_away : ℕ → ℕ → Bool
is_away n cause = nat_le cause n

-- what one cause or another needs, until it is taken away
abbrev pub until : {A : Type 0} → ℕ → ℕ → A → A → A
until n cause with without = if is_away n cause then without else with

-- a HARD problem since 50, which flaps, is acknowledged, and whose notifications are off
abbrev pub view_with : ℕ → View
view_with n = record {
  count = 1;
  has_result = true;
  state = state.Critical;
  hard = true;
  attempt = 1;
  change = 50;
  ack = until n 5 ack.Normal ack.Off;
  checks_on = true;
  notes_on = is_away n 1;
  flapping = not (is_away n 4);
}

-- a tick at 100, before which a problem was sent, where a dependency and a downtime hold the notification back
abbrev pub case_with : ℕ → Case
case_with n = record {
  check = service 1;
  history = until n 11 (deciding (sent kind.Problem) (at 60 (of_status 2)) ∷ []) [];
  entry = at 100 event.Tick;
  before = view_with n;
  after = view_with n;
  reach = until n 2 (held_by_depend 0) reachable;
  downtime = until n 3 (Some 7) None;
}

-- at 100 it is too early by the one, and too late by the other; neither its period nor its kinds nor its states take the problem
abbrev pub note_with : ℕ → NotifySpec
note_with n = record notification {
  interval = 0;
  period = until n 6 (Some 9) None;
  kinds = until n 7 (Some (record only { problem = false })) None;
  states = until n 8 (Some well) None;
  begin = until n 9 (Some 100) None;
  «end» = until n 10 (Some 10) None;
}

-- its only user takes nothing
abbrev pub site_of_causes : ℕ → PlainSite
site_of_causes n = site_with (service 1) (note_with n) (record user { enabled = is_away n 12 } ∷ [])

-- what comes of it without the first n causes
abbrev pub outcome_without : ℕ → Outcome
outcome_without n = outcome_of (site_of_causes n) holds (case_with n) 0 (note_with n) kind.Problem
