-- The events that command lines can ask for.
use Rattle.std.specs.Prelude.{◌≡◌, ◌<◌, ◌≤◌, ℕ, Bool, true, false, List, Option, Some, None}
use Rattle.std.specs.List.{slice_get}
use Rattle.plugin_line.specs.Output.{plugin_result}
use Rattle.site_model.specs.PlainSite.{PlainCheck, PlainSite}
use Rattle.site_model.specs.declared.event.Event.{Event}
use Rattle.site_model.specs.declared.event.Event.TheVariants as event
use Rattle.event_text.specs.Numbers.{host_status}
use Rattle.site_audit.specs.Commands.{can_be_named}

-- texts that some output is read as
pub record AreOfOutput (output perf : List ℕ) : Type 0 where
  pub bytes : List ℕ
  pub output_is : (plugin_result bytes 0).output ≡ output
  pub perf_is : (plugin_result bytes 0).perf ≡ perf

-- a service has each status up to 3, a host 0 or 2
abbrev pub IsStatus : Option ℕ → ℕ → Type 0
IsStatus None status = (status ≤ 3) × (host_status status ≡ status)
IsStatus (Some host) status = status ≤ 3

-- a fixed downtime has no duration of its own
abbrev pub IsDuration : Bool → ℕ → Type 0
IsDuration true duration = duration ≡ 0
IsDuration false duration = (0 < duration) × (duration ≤ 99999999999)

-- numbers and moments are in their ranges, and texts are those of an output; of what has this host, or is one
abbrev pub IsInRange : Option ℕ → Event → Type 0
IsInRange host (event.Result status passive output perf) = (passive ≡ true) × IsStatus host status × AreOfOutput output perf
IsInRange host event.Tick = ⊥
IsInRange host (event.Ack sticky notify) = Unit {0}
IsInRange host event.Unack = Unit {0}
IsInRange host (event.Down start end fixed duration) = (start < end) × (end ≤ 99999999999) × IsDuration fixed duration
IsInRange host (event.Undown number) = number ≤ 9999999999999999999
IsInRange host (event.Checks on) = Unit {0}
IsInRange host (event.Notes on) = Unit {0}
IsInRange host (event.Check moment forced) = moment ≤ 99999999999

-- a result is taken by a checkable that takes passive ones, and everything else by each
abbrev pub takes_event : PlainCheck → Event → Bool
takes_event check (event.Result status passive output perf) = check.passive
takes_event check e = true

-- a line can ask for the event on the checkable at this place
pub record CanBeAsked (s : PlainSite) (k : ℕ) (e : Event) : Type 0 where
  pub check : PlainCheck
  pub at : slice_get s.checkables k ≡ Some check
  pub named : can_be_named check.name ≡ true
  pub range : IsInRange check.host e
  pub taken : takes_event check e ≡ true
