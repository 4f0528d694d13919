-- The line of an entry whose texts are UTF-8 is so too, where the names of its site are.
use Rattle.std.proofs.Common.{◌≡◌, ℕ, zero, suc, nat_lt, cond, Bool, true, false, List, [], ◌∷◌, ◌++◌, codes, get_or, map, refl, arith}
use Rattle.std.proofs.lemmas.Bool.Decides.{nat_tests}
use Rattle.std.proofs.lemmas.Str.{IsUtf8-append}
use Rattle.std.specs.Fmt.{decimal}
use Rattle.std.specs.List.{AllByRecursion}
use Rattle.std.specs.Str.{IsUtf8}
use Rattle.audit_laws.proofs.QuotedTexts.{quoted_utf8}
use Rattle.site_base.specs.Quoted.{quoted}
use Rattle.site_model.specs.PlainSite.{PlainSite, full_names}
use Rattle.site_model.specs.declared.decision.Decision.{Decision}
use Rattle.site_model.specs.declared.entry.Entry.{Entry}
use Rattle.site_model.specs.declared.event.Event.{Event}
use Rattle.site_model.specs.declared.event.Event.TheVariants as event
use Rattle.site_model.specs.declared.note_kind.NoteKind.{NoteKind}
use Rattle.site_model.specs.declared.note_kind.NoteKind.TheVariants as kind
use Rattle.site_model.specs.declared.outcome.Outcome.{Outcome}
use Rattle.site_model.specs.declared.outcome.Outcome.TheVariants as outcome
use Rattle.site_model.specs.declared.sight.Sight.{Sight}
use Rattle.site_model.specs.declared.state.State.{State}
use Rattle.site_model.specs.declared.state.State.TheVariants as state
use Rattle.site_text.specs.Entries.{decision_text, depend_names, effect_text, event_text, head_text, length_text, list_text, lists_text, name_text, note_text, notify_names, on_text, outcome_text, parts_text, sight_text, start_text, state_text, status_text, type_text, user_names, users_text, void_text}
use Rattle.log_text.specs.EntryTwo.{told_text, AreTexts, FitsEntry, FitsEvent}
use Rattle.log_text.specs.SiteNames.{names_of}
use Rattle.run_text.specs.LogText.{styled_entry}
use Rattle.run_text.specs.declared.style.Style.{Style}
use Rattle.run_text.specs.declared.style.Style.TheVariants.{One, Two}
use Rattle.site_audit.proofs.Bytes.{decimal_digits, is_digit, weaker_so}
use Rattle.audit_laws.proofs.Fields.{small_utf8}

digit_small : (b : ℕ) → is_digit b ≡ true → nat_lt b 128 ≡ true
digit_small b h = grind (arith, nat_tests, h)

number : (n : ℕ) → IsUtf8 (decimal n)
number n = small_utf8 (decimal n) (weaker_so is_digit (λ b. nat_lt b 128) digit_small (decimal n) (decimal_digits n))

both : (xs ys : List ℕ) → IsUtf8 xs → IsUtf8 ys → IsUtf8 (xs ++ ys)
both xs ys h g = IsUtf8-append xs ys h g

nothing : IsUtf8 []
nothing = small_utf8 [] refl

behind_blank : (xs : List ℕ) → IsUtf8 xs → IsUtf8 (32 ∷ xs)
behind_blank xs h = both (codes " ") xs (small_utf8 (codes " ") refl) h

name_at : (names : List (List ℕ)) (k : ℕ) → AllByRecursion IsUtf8 names → IsUtf8 (get_or names k [])
name_at [] k h = nothing
name_at (n ∷ names) zero h = h.0
name_at (n ∷ names) (suc k) h = name_at names k h.1

name : (names : List (List ℕ)) (k : ℕ) → AllByRecursion IsUtf8 names → IsUtf8 (name_text names k)
name names k h = quoted_utf8 (get_or names k []) (name_at names k h)

-- ---- the event and the state behind it

on_off : (b : Bool) → IsUtf8 (on_text b)
on_off true = small_utf8 (codes "on") refl
on_off false = small_utf8 (codes "off") refl

choice : (b : Bool) (xs ys : List ℕ) → IsUtf8 xs → IsUtf8 ys → IsUtf8 (cond b xs ys)
choice true xs ys h g = h
choice false xs ys h g = g

lasting : (fixed : Bool) (duration : ℕ) → IsUtf8 (length_text fixed duration)
lasting true duration = small_utf8 (codes " fixed") refl
lasting false duration = both (codes " flexible ") (decimal duration) (small_utf8 (codes " flexible ") refl) (number duration)

event_texts : (v : Event) → IsUtf8 (event_text v)
event_texts (event.Result status passive output perf) = both (cond passive (codes "passive ") (codes "result ")) (decimal status) (choice passive (codes "passive ") (codes "result ") (small_utf8 (codes "passive ") refl) (small_utf8 (codes "result ") refl)) (number status)
event_texts event.Tick = small_utf8 (codes "tick") refl
event_texts (event.Ack sticky notify) =
    both (cond sticky (codes "ack sticky") (codes "ack normal")) (cond notify (codes " notify") (codes " quiet"))
    (choice sticky (codes "ack sticky") (codes "ack normal") (small_utf8 (codes "ack sticky") refl) (small_utf8 (codes "ack normal") refl))
    (choice notify (codes " notify") (codes " quiet") (small_utf8 (codes " notify") refl) (small_utf8 (codes " quiet") refl))
event_texts event.Unack = small_utf8 (codes "unack") refl
event_texts (event.Down start end fixed duration) =
    both (codes "down ") (decimal start ++ 32 ∷ (decimal end ++ length_text fixed duration)) (small_utf8 (codes "down ") refl)
    (both (decimal start) (32 ∷ (decimal end ++ length_text fixed duration)) (number start) (behind_blank (decimal end ++ length_text fixed duration) (both (decimal end) (length_text fixed duration) (number end) (lasting fixed duration))))
event_texts (event.Undown n) = both (codes "undown ") (decimal n) (small_utf8 (codes "undown ") refl) (number n)
event_texts (event.Checks on) = both (codes "checks ") (on_text on) (small_utf8 (codes "checks ") refl) (on_off on)
event_texts (event.Notes on) = both (codes "notes ") (on_text on) (small_utf8 (codes "notes ") refl) (on_off on)
event_texts (event.Check moment forced) = both (cond forced (codes "forced ") (codes "check ")) (decimal moment) (choice forced (codes "forced ") (codes "check ") (small_utf8 (codes "forced ") refl) (small_utf8 (codes "check ") refl)) (number moment)

void : (taken : Bool) → IsUtf8 (void_text taken)
void true = nothing
void false = small_utf8 (codes " void") refl

states : (w : State) → IsUtf8 (state_text w)
states state.Okay = small_utf8 (codes "OK") refl
states state.Warning = small_utf8 (codes "Warning") refl
states state.Critical = small_utf8 (codes "Critical") refl
states state.Unknown = small_utf8 (codes "Unknown") refl
states state.Up = small_utf8 (codes "Up") refl
states state.Down = small_utf8 (codes "Down") refl

types : (hard : Bool) → IsUtf8 (type_text hard)
types true = small_utf8 (codes "HARD") refl
types false = small_utf8 (codes "SOFT") refl

status : (w : State) (hard : Bool) (attempt : ℕ) → IsUtf8 (status_text w hard attempt)
status w hard attempt = both (state_text w) (32 ∷ (type_text hard ++ 32 ∷ decimal attempt)) (states w) (behind_blank (type_text hard ++ 32 ∷ decimal attempt) (both (type_text hard) (32 ∷ decimal attempt) (types hard) (behind_blank (decimal attempt) (number attempt))))

effect : (e : Entry) → IsUtf8 (effect_text e)
unfolding effect_text
effect e =
    both (event_text e.event) (void_text e.taken ++ (codes " -> " ++ status_text e.state e.hard e.attempt)) (event_texts e.event)
    (both (void_text e.taken) (codes " -> " ++ status_text e.state e.hard e.attempt) (void e.taken) (both (codes " -> ") (status_text e.state e.hard e.attempt) (small_utf8 (codes " -> ") refl) (status e.state e.hard e.attempt)))

-- ---- lists

parts : (later : Bool) (texts : List (List ℕ)) → AllByRecursion IsUtf8 texts → IsUtf8 (parts_text later texts)
parts later [] h = nothing
parts true (p ∷ ps) h = both (codes ", ") (p ++ parts_text true ps) (small_utf8 (codes ", ") refl) (both p (parts_text true ps) h.0 (parts true ps h.1))
parts false (p ∷ ps) h = both p (parts_text true ps) h.0 (parts true ps h.1)

list : (texts : List (List ℕ)) → AllByRecursion IsUtf8 texts → IsUtf8 (list_text texts)
list [] h = small_utf8 (codes "-") refl
list (p ∷ ps) h = parts false (p ∷ ps) h

each : {A : Type 0} (text : A → List ℕ) → ((x : A) → IsUtf8 (text x)) → (xs : List A) → AllByRecursion IsUtf8 (map text xs)
each text f [] = tt
each text f (x ∷ xs) = (f x, each text f xs)

notes : (k : NoteKind) → IsUtf8 (note_text k)
notes kind.Problem = small_utf8 (codes "Problem") refl
notes kind.Recovery = small_utf8 (codes "Recovery") refl
notes kind.Acknowledgement = small_utf8 (codes "Acknowledgement") refl
notes kind.Custom = small_utf8 (codes "Custom") refl
notes kind.DowntimeStart = small_utf8 (codes "DowntimeStart") refl
notes kind.DowntimeEnd = small_utf8 (codes "DowntimeEnd") refl
notes kind.DowntimeRemoved = small_utf8 (codes "DowntimeRemoved") refl
notes kind.FlappingStart = small_utf8 (codes "FlappingStart") refl
notes kind.FlappingEnd = small_utf8 (codes "FlappingEnd") refl

told : (v : Event) → FitsEvent v → IsUtf8 (told_text v)
told (event.Result status passive output perf) h = both (quoted output) (32 ∷ quoted perf) (quoted_utf8 output h.0) (behind_blank (quoted perf) (quoted_utf8 perf h.1))
told event.Tick h = small_utf8 (codes "-") refl
told (event.Ack sticky notify) h = small_utf8 (codes "-") refl
told event.Unack h = small_utf8 (codes "-") refl
told (event.Down start end fixed duration) h = small_utf8 (codes "-") refl
told (event.Undown n) h = small_utf8 (codes "-") refl
told (event.Checks on) h = small_utf8 (codes "-") refl
told (event.Notes on) h = small_utf8 (codes "-") refl
told (event.Check moment forced) h = small_utf8 (codes "-") refl

module _ (s : PlainSite) (texts : AreTexts (names_of s)) where
  users : (us : List ℕ) → IsUtf8 (users_text s us)
  users [] = nothing
  users (u ∷ us) = both (32 ∷ name_text (user_names s) u) (users_text s us) (behind_blank (name_text (user_names s) u) (name (user_names s) u texts.users)) (users us)

  outcomes : (o : Outcome) → IsUtf8 (outcome_text s o)
  outcomes (outcome.Sent us) = both (codes "Sent") (users_text s us) (small_utf8 (codes "Sent") refl) (users us)
  outcomes outcome.Disabled = small_utf8 (codes "Disabled") refl
  outcomes (outcome.Dependency depend) = both (codes "Dependency ") (name_text (depend_names s) depend) (small_utf8 (codes "Dependency ") refl) (name (depend_names s) depend texts.depends)
  outcomes (outcome.Host checkable) = both (codes "Host ") (name_text (full_names s) checkable) (small_utf8 (codes "Host ") refl) (name (full_names s) checkable texts.checkables)
  outcomes (outcome.Downtime n) = both (codes "Downtime ") (decimal n) (small_utf8 (codes "Downtime ") refl) (number n)
  outcomes outcome.Flapping = small_utf8 (codes "Flapping") refl
  outcomes outcome.Acknowledged = small_utf8 (codes "Acknowledged") refl
  outcomes outcome.Period = small_utf8 (codes "Period") refl
  outcomes outcome.Kind = small_utf8 (codes "Type") refl
  outcomes outcome.State = small_utf8 (codes "State") refl
  outcomes outcome.TooEarly = small_utf8 (codes "TooEarly") refl
  outcomes outcome.TooLate = small_utf8 (codes "TooLate") refl
  outcomes outcome.Repeat = small_utf8 (codes "Repeat") refl
  outcomes outcome.NoUsers = small_utf8 (codes "NoUsers") refl

  sight : (x : Sight) → IsUtf8 (sight_text s x)
  sight x = both (name_text (full_names s) x.checkable) (32 ∷ decimal x.count) (name (full_names s) x.checkable texts.checkables) (behind_blank (decimal x.count) (number x.count))

  decision : (d : Decision) → IsUtf8 (decision_text s d)
  decision d =
      both (name_text (notify_names s) d.notification) (32 ∷ (note_text d.kind ++ 32 ∷ outcome_text s d.outcome)) (name (notify_names s) d.notification texts.notifies)
      (behind_blank (note_text d.kind ++ 32 ∷ outcome_text s d.outcome) (both (note_text d.kind) (32 ∷ outcome_text s d.outcome) (notes d.kind) (behind_blank (outcome_text s d.outcome) (outcomes d.outcome))))

  head : (n caller moment : ℕ) → IsUtf8 (head_text n caller moment)
  head n caller moment =
      both (decimal n) (codes " by " ++ (decimal caller ++ (codes " at " ++ (decimal moment ++ codes ": ")))) (number n)
      (both (codes " by ") (decimal caller ++ (codes " at " ++ (decimal moment ++ codes ": "))) (small_utf8 (codes " by ") refl)
      (both (decimal caller) (codes " at " ++ (decimal moment ++ codes ": ")) (number caller)
      (both (codes " at ") (decimal moment ++ codes ": ") (small_utf8 (codes " at ") refl) (both (decimal moment) (codes ": ") (number moment) (small_utf8 (codes ": ") refl)))))

  start : (k : ℕ) (e : Entry) → IsUtf8 (start_text s k e)
  unfolding start_text
  start k e =
      both (codes "entry ") (name_text (full_names s) k ++ 32 ∷ head_text e.number e.caller e.moment) (small_utf8 (codes "entry ") refl)
      (both (name_text (full_names s) k) (32 ∷ head_text e.number e.caller e.moment) (name (full_names s) k texts.checkables) (behind_blank (head_text e.number e.caller e.moment) (head e.number e.caller e.moment)))

  lists : (e : Entry) → IsUtf8 (lists_text s e)
  unfolding lists_text
  lists e =
      let seen : List ℕ = list_text (map (sight_text s) e.sights) in
      let decided : List ℕ = list_text (map (decision_text s) e.decisions) in
      both (codes " | ") (seen ++ (codes " | " ++ decided)) (small_utf8 (codes " | ") refl)
      (both seen (codes " | " ++ decided) (list (map (sight_text s) e.sights) (each (sight_text s) sight e.sights))
      (both (codes " | ") decided (small_utf8 (codes " | ") refl) (list (map (decision_text s) e.decisions) (each (decision_text s) decision e.decisions))))

  newline : IsUtf8 (10 ∷ [])
  newline = small_utf8 (10 ∷ []) refl

  pub line_text : (style : Style) (k : ℕ) (e : Entry) → FitsEntry e → IsUtf8 (styled_entry style s k e)
  line_text One k e h =
      both (start_text s k e) (effect_text e ++ (lists_text s e ++ 10 ∷ [])) (start k e)
      (both (effect_text e) (lists_text s e ++ 10 ∷ []) (effect e) (both (lists_text s e) (10 ∷ []) (lists e) newline))
  line_text Two k e h =
      both (start_text s k e) (effect_text e ++ (lists_text s e ++ (codes " | " ++ (told_text e.event ++ 10 ∷ [])))) (start k e)
      (both (effect_text e) (lists_text s e ++ (codes " | " ++ (told_text e.event ++ 10 ∷ []))) (effect e)
      (both (lists_text s e) (codes " | " ++ (told_text e.event ++ 10 ∷ [])) (lists e)
      (both (codes " | ") (told_text e.event ++ 10 ∷ []) (small_utf8 (codes " | ") refl) (both (told_text e.event) (10 ∷ []) (told e.event h.event) newline))))
