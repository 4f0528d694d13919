-- A decision names no downtime but one that an entry so far began, by that entry's number.
use Rattle.std.proofs.Common.{◌≡◌, ◌≤◌, ◌<◌, ◌+◌, ◌^◌, ◌&&◌, not, ℕ, suc, cond, Bool, true, false, List, [], ◌∷◌, ◌++◌, length, map, nat_eq, Option, Some, None, refl, subst, arith}
use Rattle.std.specs.List.{AllByRecursion}
use Rattle.downtime_book.specs.Calls.{Call, added, cancelled, downtime_of, downtimes, is_cancelled, resulted}
use Rattle.downtime_book.specs.Downtime.{is_in_effect}
use Rattle.downtime_book.specs.Naming.{goes_first, least, lesser, number_of, rank_of}
use Rattle.downtime_book.specs.declared.downtime.Downtime.{Downtime}
use Rattle.downtime_book.specs.declared.rank.Rank.{Rank}
use Rattle.site_model.specs.PlainSite.{PlainCheck, PlainSite}
use Rattle.site_model.specs.declared.decision.Decision.{Decision}
use Rattle.site_model.specs.declared.entry.Entry.{Entry}
use Rattle.site_model.specs.declared.event.Event.{Event}
use Rattle.site_model.specs.declared.event.Event.TheVariants as event
use Rattle.site_model.specs.declared.note_kind.NoteKind.{NoteKind}
use Rattle.site_model.specs.declared.notify_spec.NotifySpec.{NotifySpec}
use Rattle.site_model.specs.declared.outcome.Outcome.{Outcome}
use Rattle.site_model.specs.declared.outcome.Outcome.TheVariants as outcome
use Rattle.log_text.specs.EntryTwo.{FitsOutcome}
use Rattle.run_meaning.specs.Acts.{Seen}
use Rattle.run_meaning.specs.Decisions.{Case, decided_from, decisions_of, downtime_so, first_or, held_so, is_early, is_for_problem, is_late, is_repeat, kinds_of, outcome_of, receivers, sent_to, takes_kind, takes_state, tells_state, where_so}
use Rattle.run_meaning.specs.Downtimes.{call_in, calls_from, in_effect}
use Rattle.run_meaning.specs.Reachability.{Reach, for_notes, held_by_depend, held_by_host, period_holds, reach_of, reachable}
use Rattle.run_meaning.specs.View.{is_on, view_of}

all_behind : {A : Type 0} (P : A → Type 0) (xs ys : List A) → AllByRecursion P xs → AllByRecursion P ys → AllByRecursion P (xs ++ ys)
all_behind P [] ys h g = g
all_behind P (x ∷ xs) ys h g = (h.0, all_behind P xs ys h.1 g)

-- ---- downtimes have the numbers of entries

abbrev AddsLow : ℕ → Call → Type 0
AddsLow q (added number start finish fixed duration) = number < q
AddsLow q (resulted moment problem) = Unit {0}
AddsLow q (cancelled number moment) = Unit {0}

abbrev AllLow : ℕ → List Downtime → Type 0
AllLow q ds = AllByRecursion (λ d. d.number < q) ds

one_low : (q : ℕ) (c : PlainCheck) (number moment : ℕ) (e : Event) (taken : Bool) → number < q → AllByRecursion (AddsLow q) (call_in c number moment e taken)
one_low q c number moment (event.Down start finish fixed duration) taken lt = (lt, tt)
one_low q c number moment (event.Result status passive output perf) taken lt = (tt, tt)
one_low q c number moment (event.Undown n) true lt = (tt, tt)
one_low q c number moment (event.Undown n) false lt = tt
one_low q c number moment event.Tick taken lt = tt
one_low q c number moment (event.Ack sticky notify) taken lt = tt
one_low q c number moment event.Unack taken lt = tt
one_low q c number moment (event.Checks on) taken lt = tt
one_low q c number moment (event.Notes on) taken lt = tt
one_low q c number moment (event.Check at forced) taken lt = tt

calls_low : (q : ℕ) (c : PlainCheck) (number : ℕ) (es : List Entry) → number + length es ≤ q → AllByRecursion (AddsLow q) (calls_from c number es)
calls_low q c number [] le = tt
calls_low q c number (e ∷ es) le =
    all_behind (AddsLow q) (call_in c number e.moment e.event e.taken) (calls_from c (number + 1) es) (one_low q c number e.moment e.event e.taken (omega (arith, le))) (calls_low q c (number + 1) es (omega (arith, le)))

downtimes_low : (q : ℕ) (calls : List Call) → AllByRecursion (AddsLow q) calls → AllLow q (downtimes calls)
downtimes_low q [] h = tt
downtimes_low q (added n s e f d ∷ later) h = by (is_cancelled n later) (downtimes_low q later h.1)
  where
    by : (t : Bool) → AllLow q (downtimes later) → AllLow q (cond t (downtimes later) (downtime_of n s e f d later ∷ downtimes later))
    by true rest = rest
    by false rest = (h.0, rest)
downtimes_low q (resulted t p ∷ later) h = downtimes_low q later h.1
downtimes_low q (cancelled n t ∷ later) h = downtimes_low q later h.1

abbrev IsLowRank : ℕ → Option Rank → Type 0
IsLowRank q o = (r : Rank) → o ≡ Some r → r.number < q

some_rank : (a b : Rank) → Some a ≡ Some b → a ≡ b
some_rank a b e = cc

lesser_low : (q : ℕ) (a : Rank) (o : Option Rank) → a.number < q → IsLowRank q o → (lesser a o).number < q
lesser_low q a None lt f = lt
lesser_low q a (Some b) lt f = by (goes_first a b)
  where
    by : (t : Bool) → (cond t a b).number < q
    by true = lt
    by false = f b refl

none_low : (q : ℕ) → IsLowRank q None
none_low q r e = absurd cc

least_low : (q moment : ℕ) (ds : List Downtime) → AllLow q ds → IsLowRank q (least moment ds)
least_low q moment [] h = none_low q
least_low q moment (d ∷ ds) h = by (is_in_effect moment d) (least_low q moment ds h.1)
  where
    first : IsLowRank q (least moment ds) → IsLowRank q (Some (lesser (rank_of d) (least moment ds)))
    first rest r e = subst (λ (x : Rank). x.number < q) (some_rank (lesser (rank_of d) (least moment ds)) r e) (lesser_low q (rank_of d) (least moment ds) h.0 rest)

    by : (t : Bool) → IsLowRank q (least moment ds) → IsLowRank q (cond t (Some (lesser (rank_of d) (least moment ds))) (least moment ds))
    by true rest = first rest
    by false rest = rest

named_low : (q : ℕ) (o : Option Rank) (n : ℕ) → IsLowRank q o → number_of o ≡ Some n → n < q
named_low q None n f e = absurd cc
named_low q (Some r) n f e = let same : r.number ≡ n = cc in subst (λ m. m < q) same (f r refl)

effect_low : (q : ℕ) (c : PlainCheck) (history : List Entry) (moment n : ℕ) → 1 + length history ≤ q → in_effect c history moment ≡ Some n → n < q
effect_low q c history moment n le e = named_low q (least moment (downtimes (calls_from c 1 history))) n (least_low q moment (downtimes (calls_from c 1 history)) (downtimes_low q (calls_from c 1 history) (calls_low q c 1 history le))) e

-- ---- decisions

abbrev FitsSome : Option Outcome → Type 0
FitsSome None = Unit {0}
FitsSome (Some o) = FitsOutcome o

first_fits : (last : Outcome) (os : List (Option Outcome)) → FitsOutcome last → AllByRecursion FitsSome os → FitsOutcome (first_or last os)
first_fits last [] h g = h
first_fits last (None ∷ os) h g = first_fits last os h g.1
first_fits last (Some o ∷ os) h g = g.0

where_fits : (t : Bool) (o : Outcome) → FitsOutcome o → FitsSome (where_so t o)
where_fits true o h = h
where_fits false o h = tt

held_fits : (r : Reach) → FitsSome (held_so r)
held_fits reachable = tt
held_fits (held_by_depend d) = tt
held_fits (held_by_host h) = tt

downtime_fits : (o : Option ℕ) → ((n : ℕ) → o ≡ Some n → n < 2 ^ 64) → FitsSome (downtime_so o)
downtime_fits None f = tt
downtime_fits (Some n) f = f n refl

sent_fits : (us : List ℕ) → FitsOutcome (sent_to us)
sent_fits [] = tt
sent_fits (u ∷ us) = tt

abbrev causes : (ℕ → ℕ → Bool) → Case → ℕ → NotifySpec → NoteKind → List (Option Outcome)
causes holds x n note k =
    where_so (not x.after.notes_on) outcome.Disabled
    ∷ held_so x.reach
    ∷ downtime_so x.downtime
    ∷ where_so (tells_state k && x.after.flapping) outcome.Flapping
    ∷ where_so (is_for_problem k && is_on x.after.ack) outcome.Acknowledged
    ∷ where_so (not (period_holds holds note.period x.entry.moment)) outcome.Period
    ∷ where_so (not (takes_kind note.kinds k)) outcome.Kind
    ∷ where_so (tells_state k && not (takes_state note.states x.after.state)) outcome.State
    ∷ where_so (is_for_problem k && is_early x note.begin) outcome.TooEarly
    ∷ where_so (is_for_problem k && is_late x note.«end») outcome.TooLate
    ∷ where_so (is_for_problem k && is_repeat x n note) outcome.Repeat
    ∷ []

causes_fit : (holds : ℕ → ℕ → Bool) (x : Case) (n : ℕ) (note : NotifySpec) (k : NoteKind) → ((m : ℕ) → x.downtime ≡ Some m → m < 2 ^ 64) → AllByRecursion FitsSome (causes holds x n note k)
causes_fit holds x n note k f = (
  where_fits (not x.after.notes_on) outcome.Disabled tt,
  (
    held_fits x.reach,
    (
      downtime_fits x.downtime f,
      (
        where_fits (tells_state k && x.after.flapping) outcome.Flapping tt,
        (
          where_fits (is_for_problem k && is_on x.after.ack) outcome.Acknowledged tt,
          (
            where_fits (not (period_holds holds note.period x.entry.moment)) outcome.Period tt,
            (
              where_fits (not (takes_kind note.kinds k)) outcome.Kind tt,
              (
                where_fits (tells_state k && not (takes_state note.states x.after.state)) outcome.State tt,
                (
                  where_fits (is_for_problem k && is_early x note.begin) outcome.TooEarly tt,
                  (where_fits (is_for_problem k && is_late x note.«end») outcome.TooLate tt, (where_fits (is_for_problem k && is_repeat x n note) outcome.Repeat tt, tt)),
                ),
              ),
            ),
          ),
        ),
      ),
    ),
  ),
)

outcome_fits : (s : PlainSite) (holds : ℕ → ℕ → Bool) (x : Case) (n : ℕ) (note : NotifySpec) (k : NoteKind) → ((m : ℕ) → x.downtime ≡ Some m → m < 2 ^ 64) → FitsOutcome (outcome_of s holds x n note k)
outcome_fits s holds x n note k f = first_fits (sent_to (receivers s holds x n note k)) (causes holds x n note k) (sent_fits (receivers s holds x n note k)) (causes_fit holds x n note k f)

abbrev FitsDecision : Decision → Type 0
FitsDecision d = FitsOutcome d.outcome

decided_fit : (s : PlainSite) (holds : ℕ → ℕ → Bool) (x : Case) (c n : ℕ) (notes : List NotifySpec) → ((m : ℕ) → x.downtime ≡ Some m → m < 2 ^ 64) → AllByRecursion FitsDecision (decided_from s holds x c n notes)
decided_fit s holds x c n [] f = tt
decided_fit s holds x c n (note ∷ notes) f =
    all_behind FitsDecision _ (decided_from s holds x c (suc n) notes) (here (nat_eq note.checkable c)) (decided_fit s holds x c (suc n) notes f)
  where
    each : (ks : List NoteKind) → AllByRecursion FitsDecision (map (λ k. record { notification = n; kind = k; outcome = outcome_of s holds x n note k }) ks)
    each [] = tt
    each (k ∷ ks) = (outcome_fits s holds x n note k f, each ks)

    here : (t : Bool) → AllByRecursion FitsDecision (cond t (map (λ k. record { notification = n; kind = k; outcome = outcome_of s holds x n note k }) (kinds_of x.before x.after x.entry)) [])
    here true = each (kinds_of x.before x.after x.entry)
    here false = tt

-- where the numbers of a checkable's entries have their bits
pub decisions_fit : (s : PlainSite) (holds : ℕ → ℕ → Bool) (c : ℕ) (check : PlainCheck) (history : List Entry) (e : Entry) (seen : List Seen) → 1 + length (history ++ e ∷ []) ≤ 2 ^ 64
    → AllByRecursion (λ d. FitsOutcome d.outcome) (decisions_of s holds c check history e seen)
decisions_fit s holds c check history e seen le =
    decided_fit s holds
    (record {
      check = check;
      history = history;
      entry = e;
      before = view_of check history;
      after = view_of check (history ++ e ∷ []);
      reach = reach_of (record { site = s; holds = holds; purpose = for_notes; moment = e.moment; seen = seen }) c;
      downtime = in_effect check (history ++ e ∷ []) e.moment;
    })
    c 0 s.notifies (λ m h. effect_low (2 ^ 64) check (history ++ e ∷ []) e.moment m le h)
