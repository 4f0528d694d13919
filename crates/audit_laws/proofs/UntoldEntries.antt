-- Without the texts of results acts make the same entries.
use Rattle.std.proofs.Common.{◌≡◌, ℕ, suc, ◌+◌, ◌&&◌, ◌||◌, not, nat_eq, nat_lt, is_some, Bool, cond, List, [], ◌∷◌, ◌++◌, length, map, filter, reverse, slice_get, refl, sym, ap, ap₂, ◌∙◌, Option, Some, None}
use Rattle.std.proofs.lemmas.List.{length-map, map-append}
use Rattle.site_model.specs.PlainSite.{PlainCheck, PlainSite}
use Rattle.site_model.specs.declared.decision.Decision.{Decision}
use Rattle.site_model.specs.declared.entry.Entry.{Entry}
use Rattle.site_model.specs.declared.event.Event.{Event}
use Rattle.site_model.specs.declared.event.Event.TheVariants as event
use Rattle.site_model.specs.declared.note_kind.NoteKind.{NoteKind}
use Rattle.site_model.specs.declared.note_kind.NoteKind.TheVariants as kind
use Rattle.site_model.specs.declared.notify_spec.NotifySpec.{NotifySpec}
use Rattle.site_model.specs.declared.outcome.Outcome.{Outcome}
use Rattle.site_model.specs.declared.outcome.Outcome.TheVariants as outcome
use Rattle.site_model.specs.declared.user_spec.UserSpec.{UserSpec}
use Rattle.site_model.specs.declared.view.View.{View}
use Rattle.log_text.specs.EntryTwo.{untold, without_texts}
use Rattle.run_meaning.specs.Acts.{Act, Seen, draft_of, is_taken, noted, showing}
use Rattle.run_meaning.specs.Decisions.{Case, decided_from, decisions_of, downtime_so, first_or, has_received, held_so, is_among, is_early, is_for_problem, is_for_recovery, is_hard, is_late, is_repeat, is_result, is_tick, is_well, is_within, kind_where, kinds_of, outcome_of, problem_sent, receivers, receives, sent_since, sent_to, takes_kind, takes_state, tells_ack, tells_state, where_so}
use Rattle.run_meaning.specs.Downtimes.{in_effect, is_live}
use Rattle.run_meaning.specs.Reachability.{for_notes, period_holds, reach_of}
use Rattle.run_meaning.specs.View.{has_effect, is_on, same_state, view_of}
use Rattle.audit_laws.specs.Untold.{MakesTheSame}
use Rattle.audit_laws.specs.Versions.{untold_act}
use Rattle.audit_laws.proofs.UntoldViews.{bare, effects, lives, map_reverse, same_status, views}

-- ---- lists

filter_same : {A : Type 0} (p q : A → Bool) (xs : List A) → ((x : A) → p x ≡ q x) → filter p xs ≡ filter q xs
filter_same p q [] h = refl
filter_same p q (x ∷ xs) h = ap₂ (λ t ys. cond t (x ∷ ys) ys) (h x) (filter_same p q xs h)

map_same : {A B : Type 0} (f g : A → B) (xs : List A) → ((x : A) → f x ≡ g x) → map f xs ≡ map g xs
map_same f g [] h = refl
map_same f g (x ∷ xs) h = ap₂ (λ y ys. y ∷ ys) (h x) (map_same f g xs h)

pub one_more : (history : List Entry) (e : Entry) → bare history ++ untold e ∷ [] ≡ bare (history ++ e ∷ [])
one_more history e = sym (map-append untold history (e ∷ []))

-- ---- kinds

same_tick : (e : Event) → is_tick (without_texts e) ≡ is_tick e
same_tick (event.Result status passive output perf) = refl
same_tick e = refl

same_told : (e : Event) → tells_ack (without_texts e) ≡ tells_ack e
same_told (event.Result status passive output perf) = refl
same_told e = refl

same_result : (e : Event) → is_result (without_texts e) ≡ is_result e
same_result e = ap is_some (same_status e)

abbrev kinds_by : View → View → Bool → Bool → Bool → Bool → List NoteKind
kinds_by before after taken result tick told =
    kind_where ((result || tick) && is_hard after) kind.Problem
    ++ (kind_where (result && (is_hard before && not (is_hard after))) kind.Recovery
    ++ (kind_where (taken && told) kind.Acknowledgement
    ++ (kind_where (result && (after.flapping && not before.flapping)) kind.FlappingStart
    ++ kind_where (result && (before.flapping && not after.flapping)) kind.FlappingEnd)))

kinds_same : (before after : View) (e : Entry) → kinds_of before after (untold e) ≡ kinds_of before after e
kinds_same before after e =
    ap (λ r. kinds_by before after e.taken r (is_tick (without_texts e.event)) (tells_ack (without_texts e.event))) (same_result e.event)
    ∙ ap₂ (kinds_by before after e.taken (is_result e.event)) (same_tick e.event) (same_told e.event)

-- ---- outcomes

sent_same : (n from : ℕ) (back : List Entry) → sent_since n from (bare back) ≡ sent_since n from back
sent_same n from [] = refl
sent_same n from (e ∷ back) = ap (λ o. cond (not (nat_lt e.moment from) && is_some (problem_sent n e.decisions)) (Some e.moment) o) (sent_same n from back)

received_same : (c : PlainCheck) (n u : ℕ) (back : List Entry) → has_received c n u (bare back) ≡ has_received c n u back
received_same c n u [] = refl
received_same c n u (e ∷ back) =
    ap₂ (λ o b. not (is_well c o) && (is_among u (problem_sent n e.decisions) || b)) (same_status e.event) (received_same c n u back)

abbrev bare_case : Case → Case
bare_case x = record x { history = bare x.history; entry = untold x.entry }

repeat_same : (x : Case) (n : ℕ) (note : NotifySpec) → is_repeat (bare_case x) n note ≡ is_repeat x n note
repeat_same x n note =
    ap₂ (λ r o. not (r && (not (is_hard x.before && same_state x.before.state x.after.state) || x.check.volatile)) && is_within x.entry.moment note.interval o) (same_result x.entry.event)
    (ap (sent_since n x.after.change) (map_reverse untold x.history) ∙ sent_same n x.after.change (reverse x.history))

receives_same : (holds : ℕ → ℕ → Bool) (x : Case) (n : ℕ) (k : NoteKind) (u : ℕ) (user : Option UserSpec) → receives holds (bare_case x) n k u user ≡ receives holds x n k u user
receives_same holds x n k u None = refl
receives_same holds x n k u (Some user) =
    ap (λ b. user.enabled && (period_holds holds user.period x.entry.moment && (takes_kind user.kinds k && ((not (tells_state k) || takes_state user.states x.after.state) && (not (is_for_recovery k) || b)))))
    (ap (has_received x.check n u) (map_reverse untold x.history) ∙ received_same x.check n u (reverse x.history))

receivers_same : (s : PlainSite) (holds : ℕ → ℕ → Bool) (x : Case) (n : ℕ) (note : NotifySpec) (k : NoteKind) → receivers s holds (bare_case x) n note k ≡ receivers s holds x n note k
receivers_same s holds x n note k =
    filter_same (λ u. receives holds (bare_case x) n k u (slice_get s.users u)) (λ u. receives holds x n k u (slice_get s.users u)) note.users
    (λ u. receives_same holds x n k u (slice_get s.users u))

outcome_same : (s : PlainSite) (holds : ℕ → ℕ → Bool) (x : Case) (n : ℕ) (note : NotifySpec) (k : NoteKind) → outcome_of s holds (bare_case x) n note k ≡ outcome_of s holds x n note k
outcome_same s holds x n note k =
    ap₂ (λ us t. first_or (sent_to us)
    (where_so (not x.after.notes_on) outcome.Disabled
    ∷ held_so x.reach
    ∷ downtime_so x.downtime
    ∷ where_so (tells_state k && x.after.flapping) outcome.Flapping
    ∷ where_so (is_for_problem k && is_on x.after.ack) outcome.Acknowledged
    ∷ where_so (not (period_holds holds note.period x.entry.moment)) outcome.Period
    ∷ where_so (not (takes_kind note.kinds k)) outcome.Kind
    ∷ where_so (tells_state k && not (takes_state note.states x.after.state)) outcome.State
    ∷ where_so (is_for_problem k && is_early x note.begin) outcome.TooEarly
    ∷ where_so (is_for_problem k && is_late x note.«end») outcome.TooLate
    ∷ where_so (is_for_problem k && t) outcome.Repeat
    ∷ [])) (receivers_same s holds x n note k) (repeat_same x n note)

-- ---- decisions

abbrev decided : PlainSite → (ℕ → ℕ → Bool) → Case → ℕ → NotifySpec → NoteKind → Decision
decided s holds x n note k = record { notification = n; kind = k; outcome = outcome_of s holds x n note k }

decided_same : (s : PlainSite) (holds : ℕ → ℕ → Bool) (x : Case) (c n : ℕ) (notes : List NotifySpec) → decided_from s holds (bare_case x) c n notes ≡ decided_from s holds x c n notes
decided_same s holds x c n [] = refl
decided_same s holds x c n (note ∷ notes) =
    ap₂ (λ ds more. cond (nat_eq note.checkable c) ds [] ++ more)
    (map_same (decided s holds (bare_case x) n note) (decided s holds x n note) (kinds_of x.before x.after (untold x.entry)) (λ k. ap (λ (o : Outcome). record { notification = n; kind = k; outcome = o }) (outcome_same s holds x n note k))
    ∙ ap (map (decided s holds x n note)) (kinds_same x.before x.after x.entry))
    (decided_same s holds x c (suc n) notes)

abbrev case_of : PlainSite → (ℕ → ℕ → Bool) → ℕ → PlainCheck → List Entry → Entry → List Seen → View → View → Option ℕ → Case
case_of s holds c check history e seen before after downtime = record {
  check = check;
  history = history;
  entry = e;
  before = before;
  after = after;
  reach = reach_of (record { site = s; holds = holds; purpose = for_notes; moment = e.moment; seen = seen }) c;
  downtime = downtime;
}

decisions_same : (s : PlainSite) (holds : ℕ → ℕ → Bool) (c : ℕ) (check : PlainCheck) (history : List Entry) (e : Entry) (seen : List Seen) → decisions_of s holds c check (bare history) (untold e) seen ≡ decisions_of s holds c check history e seen
decisions_same s holds c check history e seen =
    ap₂ (λ v w. decided_from s holds (case_of s holds c check (bare history) (untold e) seen v w (in_effect check (bare history ++ untold e ∷ []) e.moment)) c 0 s.notifies) (views check history)
    (ap (view_of check) (one_more history e) ∙ views check (history ++ e ∷ []))
    ∙ (ap (λ d. decided_from s holds (case_of s holds c check (bare history) (untold e) seen (view_of check history) (view_of check (history ++ e ∷ [])) d) c 0 s.notifies)
    (ap (λ es. in_effect check es e.moment) (one_more history e) ∙ effects check (history ++ e ∷ []) e.moment)
    ∙ decided_same s holds (case_of s holds c check history e seen (view_of check history) (view_of check (history ++ e ∷ [])) (in_effect check (history ++ e ∷ []) e.moment)) c 0 s.notifies)

-- ---- entries

taken_same : (c : PlainCheck) (history : List Entry) (moment : ℕ) (e : Event) → is_taken is_live c (bare history) moment (without_texts e) ≡ is_taken is_live c history moment e
taken_same c history moment (event.Undown number) = lives c history number moment
taken_same c history moment (event.Result status passive output perf) = refl
taken_same c history moment e = ap (λ v. has_effect v e) (views c history)

draft_same : (c : PlainCheck) (history : List Entry) (a : Act) → draft_of is_live c (bare history) (untold_act a) ≡ untold (draft_of is_live c history a)
draft_same c history a =
    ap₂ (λ n t. showing (view_of c (bare history ++ noted c (n + 1) t (untold_act a) ∷ [])) (noted c (n + 1) t (untold_act a))) (length-map history untold) (taken_same c history a.moment a.event)
    ∙ ap (λ v. showing v (untold e)) (ap (view_of c) (one_more history e) ∙ views c (history ++ e ∷ []))
  where
    e : Entry
    e = noted c (length history + 1) (is_taken is_live c history a.moment a.event) a

pub entries_same : (s : PlainSite) (holds : ℕ → ℕ → Bool) → MakesTheSame s holds
entries_same s holds k check history seen a =
    ap (λ (y : Entry). record y { decisions = decisions_of s holds k check (bare history) y seen }) (draft_same check history a)
    ∙ ap (λ ds. record (untold d) { decisions = ds }) (decisions_same s holds k check history d seen)
  where
    d : Entry
    d = draft_of is_live check history a
