-- What the line of an entry tells, read from its front.
use Rattle.std.specs.Prelude.{ℕ, zero, suc, List, [], ◌∷◌, length, drop, codes, Bool, true, false, Option, Some, None, if◌then◌else◌}
use Rattle.std.specs.Str.{bytes_eq}
use Rattle.site_model.specs.declared.decision.Decision.{Decision}
use Rattle.site_model.specs.declared.entry.Entry.{Entry}
use Rattle.site_model.specs.declared.event.Event.{Event}
use Rattle.site_model.specs.declared.event.Event.TheVariants as event
use Rattle.site_model.specs.declared.note_kind.NoteKind.{NoteKind}
use Rattle.site_model.specs.declared.note_kind.NoteKind.TheVariants as kind
use Rattle.site_model.specs.declared.outcome.Outcome.{Outcome}
use Rattle.site_model.specs.declared.outcome.Outcome.TheVariants as outcome
use Rattle.site_model.specs.declared.sight.Sight.{Sight}
use Rattle.site_model.specs.declared.state.State.{State}
use Rattle.site_model.specs.declared.state.State.TheVariants as state
use Rattle.site_text.specs.Entries.{state_text, note_text}
use Rattle.site_text.specs.ScriptReading.{begins}
use Rattle.log_text.specs.Fronts.{Front, ◌>>=◌, behind, flag_at, spelled_at, number_at, bounded_at, text_at, name_at, with_first, list_at}
use Rattle.log_text.specs.SiteNames.{PlainNames}
use Rattle.log_text.specs.declared.effects.Effect.{Effect}
use Rattle.log_text.specs.declared.heads.Head.{Head}

-- the greatest moment, and the greatest number of 32 bits
abbrev pub last_moment : ℕ
last_moment = 99999999999

abbrev pub last_word : ℕ
last_word = 4294967295

-- Events.

unfoldable pub result_at : Bool → List ℕ → Front Event
result_at passive bytes = do
  status ← bounded_at 3 bytes
  Some (event.Result status.0 passive [] [], status.1)

unfoldable pub ack_at : List ℕ → Front Event
ack_at bytes = do
  sticky ← flag_at (codes "sticky ") (codes "normal ") bytes
  notify ← flag_at (codes "notify") (codes "quiet") sticky.1
  Some (event.Ack sticky.0 notify.0, notify.1)

-- the length of a downtime of this span
abbrev pub with_length : ℕ → ℕ → Bool → List ℕ → Front Event
with_length start end true bytes = Some (event.Down start end true 0, bytes)
with_length start end false bytes = number_at bytes >>= λ duration. Some (event.Down start end false duration.0, duration.1)

unfoldable pub down_at : List ℕ → Front Event
down_at bytes = do
  start ← bounded_at last_moment bytes
  rest ← behind (codes " ") start.1
  end ← bounded_at last_moment rest
  fixed ← flag_at (codes " fixed") (codes " flexible ") end.1
  with_length start.0 end.0 fixed.0 fixed.1

unfoldable pub undown_at : List ℕ → Front Event
undown_at bytes = do
  number ← number_at bytes
  Some (event.Undown number.0, number.1)

unfoldable pub checks_at : List ℕ → Front Event
checks_at bytes = do
  on ← flag_at (codes "on") (codes "off") bytes
  Some (event.Checks on.0, on.1)

unfoldable pub notes_at : List ℕ → Front Event
notes_at bytes = do
  on ← flag_at (codes "on") (codes "off") bytes
  Some (event.Notes on.0, on.1)

unfoldable pub check_at : Bool → List ℕ → Front Event
check_at forced bytes = do
  moment ← bounded_at last_moment bytes
  Some (event.Check moment.0 forced, moment.1)

unfoldable pub event_at : List ℕ → Front Event
event_at bytes =
    if begins (codes "result ") bytes then result_at false (drop 7 bytes)
    else if begins (codes "passive ") bytes then result_at true (drop 8 bytes)
    else if begins (codes "tick") bytes then Some (event.Tick, drop 4 bytes)
    else if begins (codes "ack ") bytes then ack_at (drop 4 bytes)
    else if begins (codes "unack") bytes then Some (event.Unack, drop 5 bytes)
    else if begins (codes "down ") bytes then down_at (drop 5 bytes)
    else if begins (codes "undown ") bytes then undown_at (drop 7 bytes)
    else if begins (codes "checks ") bytes then checks_at (drop 7 bytes)
    else if begins (codes "notes ") bytes then notes_at (drop 6 bytes)
    else if begins (codes "check ") bytes then check_at false (drop 6 bytes)
    else if begins (codes "forced ") bytes then check_at true (drop 7 bytes)
    else None

-- States, and what an event made of the checkable.

unfoldable pub state_at : List ℕ → Front State
state_at bytes = spelled_at state_text (state.Okay ∷ state.Warning ∷ state.Critical ∷ state.Unknown ∷ state.Up ∷ state.Down ∷ []) bytes

-- whether the event had an effect
abbrev pub taken_at : List ℕ → Front Bool
taken_at bytes = if begins (codes " void") bytes then Some (false, drop 5 bytes) else Some (true, bytes)

unfoldable pub effect_at : List ℕ → Front Effect
effect_at bytes = do
  e ← event_at bytes
  taken ← taken_at e.1
  a ← behind (codes " -> ") taken.1
  s ← state_at a
  b ← behind (codes " ") s.1
  hard ← flag_at (codes "HARD ") (codes "SOFT ") b
  attempt ← bounded_at last_word hard.1
  Some (record { event = e.0; taken = taken.0; state = s.0; hard = hard.0; attempt = attempt.0 }, attempt.1)

-- The checkable, and which entry of its history this is.

unfoldable pub head_at : PlainNames → List ℕ → Front Head
head_at names bytes = do
  a ← behind (codes "entry ") bytes
  checkable ← name_at names.checkables a
  b ← behind (codes " ") checkable.1
  number ← number_at b
  c ← behind (codes " by ") number.1
  caller ← bounded_at last_word c
  d ← behind (codes " at ") caller.1
  moment ← bounded_at last_moment d
  e ← behind (codes ": ") moment.1
  Some (record { checkable = checkable.0; number = number.0; caller = caller.0; moment = moment.0 }, e)

-- What was seen, and what was decided.

unfoldable pub sight_at : PlainNames → List ℕ → Front Sight
sight_at names bytes = do
  checkable ← name_at names.checkables bytes
  a ← behind (codes " ") checkable.1
  count ← number_at a
  Some (record { checkable = checkable.0; count = count.0 }, count.1)

-- names of users with a blank before each, with a bound on their number
abbrev pub users_step : (List ℕ → Front (List ℕ)) → List (List ℕ) → List ℕ → Option (List ℕ) → Front (List ℕ)
users_step again names bytes None = Some ([], bytes)
users_step again names bytes (Some rest) = name_at names (drop 1 bytes) >>= λ user. again user.1 >>= with_first user.0

abbrev pub users_within : ℕ → List (List ℕ) → List ℕ → Front (List ℕ)
users_within zero names bytes = None
users_within (suc most) names bytes = users_step (users_within most names) names bytes (behind (32 ∷ 34 ∷ []) bytes)

unfoldable pub sent_at : PlainNames → List ℕ → Front Outcome
sent_at names bytes = do
  users ← users_within (length bytes) names.users bytes
  Some (outcome.Sent users.0, users.1)

unfoldable pub depend_at : PlainNames → List ℕ → Front Outcome
depend_at names bytes = do
  depend ← name_at names.depends bytes
  Some (outcome.Dependency depend.0, depend.1)

unfoldable pub host_at : PlainNames → List ℕ → Front Outcome
host_at names bytes = do
  checkable ← name_at names.checkables bytes
  Some (outcome.Host checkable.0, checkable.1)

unfoldable pub downtime_at : List ℕ → Front Outcome
downtime_at bytes = do
  number ← number_at bytes
  Some (outcome.Downtime number.0, number.1)

-- outcomes that name nothing
unfoldable pub plain_outcome_at : List ℕ → Front Outcome
plain_outcome_at bytes =
    if begins (codes "Disabled") bytes then Some (outcome.Disabled, drop 8 bytes)
    else if begins (codes "Flapping") bytes then Some (outcome.Flapping, drop 8 bytes)
    else if begins (codes "Acknowledged") bytes then Some (outcome.Acknowledged, drop 12 bytes)
    else if begins (codes "Period") bytes then Some (outcome.Period, drop 6 bytes)
    else if begins (codes "Type") bytes then Some (outcome.Kind, drop 4 bytes)
    else if begins (codes "State") bytes then Some (outcome.State, drop 5 bytes)
    else if begins (codes "TooEarly") bytes then Some (outcome.TooEarly, drop 8 bytes)
    else if begins (codes "TooLate") bytes then Some (outcome.TooLate, drop 7 bytes)
    else if begins (codes "Repeat") bytes then Some (outcome.Repeat, drop 6 bytes)
    else if begins (codes "NoUsers") bytes then Some (outcome.NoUsers, drop 7 bytes)
    else None

unfoldable pub outcome_at : PlainNames → List ℕ → Front Outcome
outcome_at names bytes =
    if begins (codes "Sent") bytes then sent_at names (drop 4 bytes)
    else if begins (codes "Dependency ") bytes then depend_at names (drop 11 bytes)
    else if begins (codes "Host ") bytes then host_at names (drop 5 bytes)
    else if begins (codes "Downtime ") bytes then downtime_at (drop 9 bytes)
    else plain_outcome_at bytes

unfoldable pub kind_at : List ℕ → Front NoteKind
kind_at bytes =
    spelled_at note_text (kind.Problem ∷ kind.Recovery ∷ kind.Acknowledgement ∷ kind.Custom ∷ kind.DowntimeStart ∷ kind.DowntimeEnd ∷ kind.DowntimeRemoved ∷ kind.FlappingStart ∷ kind.FlappingEnd ∷ []) bytes

unfoldable pub decision_at : PlainNames → List ℕ → Front Decision
decision_at names bytes = do
  notification ← name_at names.notifies bytes
  a ← behind (codes " ") notification.1
  k ← kind_at a
  b ← behind (codes " ") k.1
  o ← outcome_at names b
  Some (record { notification = notification.0; kind = k.0; outcome = o.0 }, o.1)

-- Entries.

abbrev pub entry_of : Head → Effect → List Sight → List Decision → Entry
entry_of h e sights decisions = record {
  caller = h.caller;
  number = h.number;
  moment = h.moment;
  event = e.event;
  taken = e.taken;
  state = e.state;
  hard = e.hard;
  attempt = e.attempt;
  sights = sights;
  decisions = decisions;
}

-- a checkable and its entry, up to the decisions
unfoldable pub entry_at : PlainNames → List ℕ → Front (ℕ × Entry)
entry_at names bytes = do
  h ← head_at names bytes
  e ← effect_at h.1
  a ← behind (codes " | ") e.1
  sights ← list_at (sight_at names) a
  b ← behind (codes " | ") sights.1
  decisions ← list_at (decision_at names) b
  Some ((h.0.checkable, entry_of h.0 e.0 sights.0 decisions.0), decisions.1)

-- a value behind which the line ends
abbrev pub ended : {A : Type 0} → A × List ℕ → Option A
ended x = if bytes_eq x.1 (10 ∷ []) then Some x.0 else None

-- a whole line
unfoldable pub entry_read : PlainNames → List ℕ → Option (ℕ × Entry)
entry_read names line = entry_at names line >>= ended

-- Version two.

-- the texts of a result, and a dash in place of those of another event
abbrev pub told_at : Event → List ℕ → Front Event
told_at (event.Result status passive output perf) bytes = do
  o ← text_at bytes
  a ← behind (codes " ") o.1
  p ← text_at a
  Some (event.Result status passive o.0 p.0, p.1)
told_at e bytes = behind (codes "-") bytes >>= λ rest. Some (e, rest)

abbrev pub with_event : ℕ × Entry → Event × List ℕ → Front (ℕ × Entry)
with_event x t = Some ((x.0, record x.1 { event = t.0 }), t.1)

unfoldable pub entry_two_read : PlainNames → List ℕ → Option (ℕ × Entry)
entry_two_read names line = do
  x ← entry_at names line
  a ← behind (codes " | ") x.1
  t ← told_at x.0.1.event a
  y ← with_event x.0 t
  ended y
