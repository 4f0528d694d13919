-- Decisions, by what a book keeps.
use Rattle.std.proofs.Common.{rules, ◌≡◌, ◌≤◌, ◌&&◌, ◌||◌, ◌++◌, ◌+◌, ℕ, zero, suc, nat_eq, nat_lt, not, Bool, true, false, cond, List, [], ◌∷◌, map, slice_get, get_or, filter, Option, Some, None, All, IsSomeAnd, refl, sym, ap, ◌∙◌, arith, append_assoc, ltb-true, length, ◌==◌, eqb-true, Result, Ok, Err, IfOk}
use Rattle.std.specs.Prelude.{is_some}
use Rattle.std.proofs.lemmas.List.Elements.{All-head, All-tail}
use Rattle.jiff_tz.specs.declared.tzif.Tzif.{Tzif}
use Rattle.site_model.specs.PlainSite.{PlainCheck, PlainSite, check_view}
use Rattle.site_model.specs.declared.check_spec.CheckSpec.{CheckSpec}
use Rattle.site_model.specs.declared.decision.Decision.{Decision}
use Rattle.site_model.specs.declared.entry.Entry.{Entry}
use Rattle.site_model.specs.declared.note_kind.NoteKind.{NoteKind}
use Rattle.site_model.specs.declared.notify_spec.NotifySpec.{NotifySpec}
use Rattle.site_model.specs.declared.outcome.Outcome.{Outcome}
use Rattle.site_model.specs.declared.view.View.{View}
use Rattle.run_meaning.specs.Acts.{Seen}
use Rattle.run_meaning.specs.Decisions.{Case, decided_from, first_or, is_hard, is_result, is_tick, kind_where, kinds_of, problem_sent, sent_since, tells_ack}
use Rattle.run_meaning.specs.Downtimes.{in_effect}
use Rattle.run_meaning.specs.Reachability.{for_notes, reach_of}
use Rattle.run_meaning.specs.View.{view_of}
use Rattle.notify_rules.specs.Case.{decided_for, decided_where, decided_on, first_in, gives_kinds, has_any, sent_from}
use Rattle.depend_graph.specs.Outlooks.{holds_in}
use Rattle.notify_rules.specs.Sent.{last_sent, notes_from, number_of, user_of, HasUsers, NeverFall}
use Rattle.notify_rules.specs.declared.sent_note.SentNote.{SentNote}

-- When a problem was sent.

none_since : (n from at : ℕ) (back : List Entry) → All (λ x. x.moment ≤ at) back → nat_lt at from ≡ true → sent_since n from back ≡ None
none_since n from at [] h late = refl
none_since n from at (e ∷ back) h late =
    let here : nat_lt e.moment from ≡ true = is_less e.moment at from (All-head (λ x. x.moment ≤ at) e back h) late in
    ap (λ b. cond (not b && is_some (problem_sent n e.decisions)) (Some e.moment) (sent_since n from back)) here
    ∙ none_since n from at back (All-tail (λ x. x.moment ≤ at) e back h) late
  where
    is_less : (a b c : ℕ) → a ≤ b → nat_lt b c ≡ true → nat_lt a c ≡ true
    is_less a b c l t = search (rules, ltb-true)

since_more : (n from at : ℕ) (sent late : Bool) → nat_lt at from ≡ late → (since last : Option ℕ) → since ≡ sent_from from last → (nat_lt at from ≡ true → since ≡ None) →
    cond (not late && sent) (Some at) since ≡ sent_from from (cond sent (Some at) last)
since_more n from at true true is since last rest gone = gone is ∙ sym (ap (λ b. cond b None (Some at)) is)
since_more n from at true false is since last rest gone = sym (ap (λ b. cond b None (Some at)) is)
since_more n from at false true is since last rest gone = rest
since_more n from at false false is since last rest gone = rest

pub since_is : (n from : ℕ) (back : List Entry) → NeverFall back → sent_since n from back ≡ sent_from from (last_sent n back)
since_is n from [] h = refl
since_is n from (e ∷ back) h =
    since_more n from e.moment (is_some (problem_sent n e.decisions)) (nat_lt e.moment from) refl (sent_since n from back) (last_sent n back) (since_is n from back h.1) (none_since n from e.moment back h.0)

-- The first cause.

pub first_of_front : (last o : Outcome) (front more : List (Option Outcome)) → Some o ≡ first_in front → first_or last (front ++ more) ≡ o
first_of_front last o [] more h = absurd cc
first_of_front last o (None ∷ front) more h = first_of_front last o front more h
first_of_front last o (Some p ∷ front) more h = cc

pub none_of_front : (last : Outcome) (front more : List (Option Outcome)) → None ≡ first_in front → first_or last (front ++ more) ≡ first_or last more
none_of_front last [] more h = refl
none_of_front last (None ∷ front) more h = none_of_front last front more h
none_of_front last (Some p ∷ front) more h = absurd cc

pub gone_of_front : (last : Outcome) (front more : List (Option Outcome)) (r : Option Outcome) → r ≡ first_in front → ((o : Outcome) → r ≡ Some o → ⊥) → first_or last (front ++ more) ≡ first_or last more
gone_of_front last front more None h gone = none_of_front last front more h
gone_of_front last front more (Some o) h gone = absurd (gone o refl)

-- All notifications.

pub decided_by_indices : (s : PlainSite) (holds : ℕ → ℕ → Bool) (x : Case) (c n : ℕ) (notes : List NotifySpec) → ((k : ℕ) → slice_get s.notifies (n + k) ≡ slice_get notes k) →
    decided_from s holds x c n notes ≡ decided_on s holds x (kinds_of x.before x.after x.entry) (notes_from c n notes)
decided_by_indices s holds x c n [] h = refl
decided_by_indices s holds x c n (note ∷ notes) h =
    let kinds : List NoteKind = kinds_of x.before x.after x.entry in
    let rest : decided_from s holds x c (suc n) notes ≡ decided_on s holds x kinds (notes_from c (suc n) notes) =
    decided_by_indices s holds x c (suc n) notes (λ k. let e : suc n + k ≡ n + suc k = omega arith in ap (slice_get s.notifies) e ∙ h (suc k)) in
    let here : slice_get s.notifies n ≡ Some note = let e : n ≡ n + 0 = omega arith in ap (slice_get s.notifies) e ∙ h 0 in
    elim (nat_eq note.checkable c) as (λ b. cond b (decided_for s holds x kinds n note) [] ++ decided_from s holds x c (suc n) notes ≡ decided_on s holds x kinds (cond b (n ∷ []) [] ++ notes_from c (suc n) notes)) [
      | true ↦
          ap (λ ds. decided_for s holds x kinds n note ++ ds) rest
          ∙ sym (ap (λ o. decided_where s holds x kinds n o ++ decided_on s holds x kinds (notes_from c (suc n) notes)) here)
      | false ↦ rest
    ]

pub decided_on_nothing : (s : PlainSite) (holds : ℕ → ℕ → Bool) (x : Case) (ns : List ℕ) → decided_on s holds x [] ns ≡ []
decided_on_nothing s holds x [] = refl
decided_on_nothing s holds x (n ∷ ns) =
    elim (slice_get s.notifies n) as (λ o. decided_where s holds x [] n o ++ decided_on s holds x [] ns ≡ []) [
      | None ↦ decided_on_nothing s holds x ns
      | Some note ↦ decided_on_nothing s holds x ns
    ]

-- One more receiver.

pub one_receiver : (receives : ℕ → Bool) (told us : List ℕ) (u : ℕ) (b : Bool) → b ≡ receives u → (told ++ cond b (u ∷ []) []) ++ filter receives us ≡ told ++ filter receives (u ∷ us)
one_receiver receives told us u true e = append_assoc told (u ∷ []) (filter receives us) ∙ ap (λ b. told ++ cond b (u ∷ filter receives us) (filter receives us)) e
one_receiver receives told us u false e = append_assoc told [] (filter receives us) ∙ ap (λ b. told ++ cond b (u ∷ filter receives us) (filter receives us)) e

-- The checkable.

pub spec_at : (cs : List CheckSpec) (k : ℕ) (d : CheckSpec) (check : PlainCheck) → slice_get (map check_view cs) k ≡ Some check → check_view (get_or cs k d) ≡ check
spec_at [] k d check e = absurd cc
spec_at (x ∷ cs) zero d check e = cc
spec_at (x ∷ cs) (suc k) d check e = spec_at cs k d check e

-- All at an entry.

abbrev pub case_of : PlainSite → Option Tzif → ℕ → PlainCheck → List Entry → Entry → List Seen → Case
case_of s zone c check h e seen = record {
  check = check;
  history = h;
  entry = e;
  before = view_of check h;
  after = view_of check (h ++ e ∷ []);
  reach = reach_of (record { site = s; holds = holds_in s zone; purpose = for_notes; moment = e.moment; seen = seen }) c;
  downtime = in_effect check (h ++ e ∷ []) e.moment;
}

pub all_decided : (s : PlainSite) (holds : ℕ → ℕ → Bool) (x : Case) (c : ℕ) (kinds : List NoteKind) (numbers : List ℕ) → kinds ≡ kinds_of x.before x.after x.entry → numbers ≡ notes_from c 0 s.notifies →
    decided_on s holds x kinds numbers ≡ decided_from s holds x c 0 s.notifies
all_decided s holds x c kinds numbers by_kinds by_numbers =
    ap (λ ks. decided_on s holds x ks numbers) by_kinds ∙ ap (decided_on s holds x (kinds_of x.before x.after x.entry)) by_numbers
    ∙ sym (decided_by_indices s holds x c 0 s.notifies (λ k. let e : 0 + k ≡ k = omega arith in ap (slice_get s.notifies) e))

pub nothing_decided : (s : PlainSite) (holds : ℕ → ℕ → Bool) (x : Case) (c : ℕ) (kinds : List NoteKind) → kinds ≡ [] → kinds ≡ kinds_of x.before x.after x.entry → [] ≡ decided_from s holds x c 0 s.notifies
nothing_decided s holds x c kinds none by_kinds =
    sym (ap (λ ks. decided_on s holds x ks (notes_from c 0 s.notifies)) none ∙ decided_on_nothing s holds x (notes_from c 0 s.notifies))
    ∙ all_decided s holds x c kinds (notes_from c 0 s.notifies) by_kinds refl

-- Whether anything is decided.

pub empty : {X : Type 0} (xs : List X) → (length xs == 0) ≡ true → xs ≡ []
empty [] h = refl
empty (x ∷ xs) h = let e : length (x ∷ xs) ≡ 0 = eqb-true (length (x ∷ xs)) 0 h in absurd (omega (arith, e))

pub none_there : {X : Type 0} (xs : List X) → (length xs == 0) ≡ true → has_any xs ≡ false
none_there xs h = ap has_any (empty xs h)

pub some_there : {X : Type 0} (xs : List X) → (length xs == 0) ≡ false → has_any xs ≡ true
some_there [] h = absurd cc
some_there (x ∷ xs) h = refl

any_kind : (a b c d e : Bool) (k l m n o : NoteKind) →
    ((((a || b) || c) || d) || e) ≡ has_any (kind_where a k ++ (kind_where b l ++ (kind_where c m ++ (kind_where d n ++ kind_where e o))))
any_kind true b c d e k l m n o = refl
any_kind false true c d e k l m n o = refl
any_kind false false true d e k l m n o = refl
any_kind false false false true e k l m n o = refl
any_kind false false false false true k l m n o = refl
any_kind false false false false false k l m n o = refl

pub given : (before after : View) (e : Entry) → gives_kinds before after e.event e.taken ≡ has_any (kinds_of before after e)
given before after e =
    any_kind ((is_result e.event || is_tick e.event) && is_hard after) (is_result e.event && (is_hard before && not (is_hard after))) (e.taken && tells_ack e.event)
    (is_result e.event && (after.flapping && not before.flapping)) (is_result e.event && (before.flapping && not after.flapping)) _ _ _ _ _

no_kinds : {X : Type 0} (xs : List X) → false ≡ has_any xs && false
no_kinds [] = refl
no_kinds (x ∷ xs) = refl

pub any_decided : (s : PlainSite) (holds : ℕ → ℕ → Bool) (x : Case) (kinds : List NoteKind) (rs : List SentNote) → All (HasUsers s.notifies) rs →
    has_any (decided_on s holds x kinds (map number_of rs)) ≡ has_any rs && has_any kinds
any_decided s holds x [] rs have = ap has_any (decided_on_nothing s holds x (map number_of rs)) ∙ no_kinds rs
any_decided s holds x (k ∷ ks) [] have = refl
any_decided s holds x (k ∷ ks) (r ∷ rs) have = by (slice_get s.notifies r.notification) refl (All-head (HasUsers s.notifies) r rs have)
  where
    rest : List Decision
    rest = decided_on s holds x (k ∷ ks) (map number_of rs)

    by : (o : Option NotifySpec) → slice_get s.notifies r.notification ≡ o → IsSomeAnd o (λ note. map user_of r.listeners ≡ note.users) →
        has_any (decided_where s holds x (k ∷ ks) r.notification (slice_get s.notifies r.notification) ++ rest) ≡ true
    by None e h = absurd h
    by (Some note) e h = ap (λ o. has_any (decided_where s holds x (k ∷ ks) r.notification o ++ rest)) e

-- Answers of calls.

pub if_ok : {X E : Type 0} (P Q : X → Type 0) → ((x : X) → P x → Q x) → (r : Result X E) → IfOk r P → IfOk r Q
if_ok P Q step (Ok x) h = step x h
if_ok P Q step (Err e) h = tt
