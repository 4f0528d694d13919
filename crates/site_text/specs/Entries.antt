-- The lines of entries.
use Rattle.std.specs.Prelude.{◌≡◌, ℕ, ◌<◌, ◌≤◌, List, [], ◌∷◌, ◌++◌, Bool, true, false, codes, get_or, length, map, All, if◌then◌else◌}
use Rattle.std.specs.Bool.{OnTrue}
use Rattle.std.specs.Fmt.{decimal}
use Rattle.std.specs.List.{flat_map}
use Rattle.site_base.specs.Quoted.{quoted}
use Rattle.site_model.specs.PlainSite.{PlainSite, full_names}
use Rattle.site_model.specs.declared.decision.Decision.{Decision}
use Rattle.site_model.specs.declared.entry.Entry.{Entry}
use Rattle.site_model.specs.declared.event.Event.{Event}
use Rattle.site_model.specs.declared.event.Event.TheVariants as event
use Rattle.site_model.specs.declared.note_kind.NoteKind.{NoteKind}
use Rattle.site_model.specs.declared.note_kind.NoteKind.TheVariants as kind
use Rattle.site_model.specs.declared.outcome.Outcome.{Outcome}
use Rattle.site_model.specs.declared.outcome.Outcome.TheVariants as outcome
use Rattle.site_model.specs.declared.sight.Sight.{Sight}
use Rattle.site_model.specs.declared.state.State.{State}
use Rattle.site_model.specs.declared.state.State.TheVariants as state

abbrev pub state_text : State → List ℕ
state_text state.Okay = codes "OK"
state_text state.Warning = codes "Warning"
state_text state.Critical = codes "Critical"
state_text state.Unknown = codes "Unknown"
state_text state.Up = codes "Up"
state_text state.Down = codes "Down"

abbrev pub type_text : Bool → List ℕ
type_text true = codes "HARD"
type_text false = codes "SOFT"

abbrev pub note_text : NoteKind → List ℕ
note_text kind.Problem = codes "Problem"
note_text kind.Recovery = codes "Recovery"
note_text kind.Acknowledgement = codes "Acknowledgement"
note_text kind.Custom = codes "Custom"
note_text kind.DowntimeStart = codes "DowntimeStart"
note_text kind.DowntimeEnd = codes "DowntimeEnd"
note_text kind.DowntimeRemoved = codes "DowntimeRemoved"
note_text kind.FlappingStart = codes "FlappingStart"
note_text kind.FlappingEnd = codes "FlappingEnd"

abbrev pub on_text : Bool → List ℕ
on_text true = codes "on"
on_text false = codes "off"

-- how long a downtime lasts: a flexible one so many seconds once it is triggered
abbrev pub length_text : Bool → ℕ → List ℕ
length_text true duration = codes " fixed"
length_text false duration = codes " flexible " ++ decimal duration

abbrev pub event_text : Event → List ℕ
event_text (event.Result status passive output perf) = (if passive then codes "passive " else codes "result ") ++ decimal status
event_text event.Tick = codes "tick"
event_text (event.Ack sticky notify) =
    (if sticky then codes "ack sticky" else codes "ack normal") ++ (if notify then codes " notify" else codes " quiet")
event_text event.Unack = codes "unack"
event_text (event.Down start end fixed duration) =
    codes "down " ++ (decimal start ++ 32 ∷ (decimal end ++ length_text fixed duration))
event_text (event.Undown number) = codes "undown " ++ decimal number
event_text (event.Checks on) = codes "checks " ++ on_text on
event_text (event.Notes on) = codes "notes " ++ on_text on
event_text (event.Check moment forced) = (if forced then codes "forced " else codes "check ") ++ decimal moment

-- behind an event without effect
abbrev pub void_text : Bool → List ℕ
void_text true = []
void_text false = codes " void"

-- the quoted name at a place of a list of names
abbrev pub name_text : List (List ℕ) → ℕ → List ℕ
name_text names k = quoted (get_or names k [])

abbrev pub depend_names : PlainSite → List (List ℕ)
depend_names s = map (λ d. d.name) s.depends

abbrev pub notify_names : PlainSite → List (List ℕ)
notify_names s = map (λ n. n.name) s.notifies

abbrev pub user_names : PlainSite → List (List ℕ)
user_names s = map (λ u. u.name) s.users

-- a blank before each receiver
abbrev pub users_text : PlainSite → List ℕ → List ℕ
users_text s users = flat_map (λ u. 32 ∷ name_text (user_names s) u) users

abbrev pub outcome_text : PlainSite → Outcome → List ℕ
outcome_text s (outcome.Sent users) = codes "Sent" ++ users_text s users
outcome_text s outcome.Disabled = codes "Disabled"
outcome_text s (outcome.Dependency depend) = codes "Dependency " ++ name_text (depend_names s) depend
outcome_text s (outcome.Host checkable) = codes "Host " ++ name_text (full_names s) checkable
outcome_text s (outcome.Downtime number) = codes "Downtime " ++ decimal number
outcome_text s outcome.Flapping = codes "Flapping"
outcome_text s outcome.Acknowledged = codes "Acknowledged"
outcome_text s outcome.Period = codes "Period"
outcome_text s outcome.Kind = codes "Type"
outcome_text s outcome.State = codes "State"
outcome_text s outcome.TooEarly = codes "TooEarly"
outcome_text s outcome.TooLate = codes "TooLate"
outcome_text s outcome.Repeat = codes "Repeat"
outcome_text s outcome.NoUsers = codes "NoUsers"

abbrev pub sight_text : PlainSite → Sight → List ℕ
sight_text s sight = name_text (full_names s) sight.checkable ++ 32 ∷ decimal sight.count

abbrev pub decision_text : PlainSite → Decision → List ℕ
decision_text s d = name_text (notify_names s) d.notification ++ 32 ∷ (note_text d.kind ++ 32 ∷ outcome_text s d.outcome)

-- the parts with a comma and a blank before each but the first
abbrev pub parts_text : Bool → List (List ℕ) → List ℕ
parts_text later [] = []
parts_text later (part ∷ parts) = (if later then codes ", " else []) ++ (part ++ parts_text true parts)

-- the parts joined, and a dash if there are none
abbrev pub list_text : List (List ℕ) → List ℕ
list_text [] = codes "-"
list_text (part ∷ parts) = parts_text false (part ∷ parts)

-- NUMBER by CALLER at MOMENT and a colon
abbrev pub head_text : ℕ → ℕ → ℕ → List ℕ
head_text number caller moment = decimal number ++ (codes " by " ++ (decimal caller ++ (codes " at " ++ (decimal moment ++ codes ": "))))

-- the state, its type and the attempt
abbrev pub status_text : State → Bool → ℕ → List ℕ
status_text state hard attempt = state_text state ++ 32 ∷ (type_text hard ++ 32 ∷ decimal attempt)

-- the checkable, and which entry of its history this is
unfoldable pub start_text : PlainSite → ℕ → Entry → List ℕ
start_text s checkable e = codes "entry " ++ (name_text (full_names s) checkable ++ 32 ∷ head_text e.number e.caller e.moment)

-- the event and the state after it
unfoldable pub effect_text : Entry → List ℕ
effect_text e = event_text e.event ++ (void_text e.taken ++ (codes " -> " ++ status_text e.state e.hard e.attempt))

-- what was seen, and what was decided
unfoldable pub lists_text : PlainSite → Entry → List ℕ
lists_text s e = codes " | " ++ (list_text (map (sight_text s) e.sights) ++ (codes " | " ++ list_text (map (decision_text s) e.decisions)))

abbrev pub entry_line : PlainSite → ℕ → Entry → List ℕ
entry_line s checkable e = start_text s checkable e ++ (effect_text e ++ (lists_text s e ++ 10 ∷ []))

-- what an outcome names is the site's
abbrev pub IsOutcomeOf : PlainSite → Outcome → Type 0
IsOutcomeOf s (outcome.Sent users) = All (λ u. u < length s.users) users
IsOutcomeOf s (outcome.Dependency depend) = depend < length s.depends
IsOutcomeOf s (outcome.Host checkable) = checkable < length s.checkables
IsOutcomeOf s _ = Unit {0}

pub record IsDecisionOf (s : PlainSite) (d : Decision) : Type 0 where
  pub notification : d.notification < length s.notifies
  pub named : IsOutcomeOf s d.outcome

-- a status is at most 3, and a fixed downtime has no duration
abbrev pub IsInForm : Event → Type 0
IsInForm (event.Result status passive output perf) = status ≤ 3
IsInForm (event.Down start end fixed duration) = OnTrue fixed (duration ≡ 0)
IsInForm _ = Unit {0}

-- what can be printed of an entry of this checkable
pub record IsPrintable (s : PlainSite) (checkable : ℕ) (e : Entry) : Type 0 where
  pub own : checkable < length s.checkables
  pub in_form : IsInForm e.event
  pub seen : All (λ sight. sight.checkable < length s.checkables) e.sights
  pub decided : All (IsDecisionOf s) e.decisions
