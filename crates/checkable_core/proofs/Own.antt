-- What is decided names what is the site's.
use Rattle.std.proofs.Common.{◌≡◌, ℕ, zero, suc, ◌+◌, ◌<◌, ◌≤◌, ◌&&◌, nat_eq, not, Bool, true, false, cond, List, [], ◌∷◌, ◌++◌, All, length, map, filter, slice_get, Option, Some, None, refl, sym, arith, subst}
use Rattle.std.specs.Option.{IsSomeAnd}
use Rattle.std.proofs.lemmas.List.Elements.{All-append, All-cons, All-filter, All-head, All-nil, All-tail, All-weaker}
use Rattle.run_meaning.specs.Acts.{Seen}
use Rattle.run_meaning.specs.Decisions.{Case, decided_from, decisions_of, downtime_so, first_or, held_so, is_early, is_for_problem, is_late, is_repeat, kinds_of, outcome_of, receivers, receives, sent_to, takes_kind, takes_state, tells_state, where_so}
use Rattle.run_meaning.specs.Downtimes.{in_effect}
use Rattle.run_meaning.specs.Reachability.{Outlook, Purpose, Reach, ancestors, depend_or, first_back, for_checks, for_notes, held_by_depend, held_by_host, holds_back, host_back, host_in, is_above, is_held, period_holds, reach_in, reach_of, reachable}
use Rattle.run_meaning.specs.Turns.{from_on}
use Rattle.run_meaning.specs.View.{is_on, view_of}
use Rattle.site_model.specs.PlainSite.{PlainCheck, PlainSite}
use Rattle.site_model.specs.Sound.{AreHostsThenServices, IsIndex, IsSound, TellsUsers}
use Rattle.site_model.specs.declared.depend_spec.DependSpec.{DependSpec}
use Rattle.site_model.specs.declared.entry.Entry.{Entry}
use Rattle.site_model.specs.declared.note_kind.NoteKind.{NoteKind}
use Rattle.site_model.specs.declared.notify_spec.NotifySpec.{NotifySpec}
use Rattle.site_model.specs.declared.outcome.Outcome.{Outcome}
use Rattle.site_model.specs.declared.outcome.Outcome.TheVariants as outcome
use Rattle.checkable_core.specs.Histories.{DecidesOwn, NamesOwn}

-- Lists.

pub all_parts : {X Y : Type 0} (P : Y → Type 0) (f : X → Y) (xs : List X) → All P (map f xs) → All (λ x. P (f x)) xs
all_parts P f [] h = All-nil (λ x. P (f x))
all_parts P f (x ∷ xs) h = All-cons (λ y. P (f y)) x xs (All-head P (f x) (map f xs) h) (all_parts P f xs (All-tail P (f x) (map f xs) h))

all_below : (k n most : ℕ) → k + n ≤ most → All (λ p. p < most) (from_on k n)
all_below k zero most h = All-nil (λ p. p < most)
all_below k (suc n) most h = All-cons (λ p. p < most) k (from_on (suc k) n) (omega (arith, h)) (all_below (suc k) n most (omega (arith, h)))

-- Ancestors.

pub ancestors_own : (s : PlainSite) (k : ℕ) → All (IsIndex (length s.checkables)) (ancestors s k)
ancestors_own s k = All-filter (λ p. is_above s (length s.checkables) p k) (IsIndex (length s.checkables)) (from_on 0 (length s.checkables)) (all_below 0 (length s.checkables) (length s.checkables) (omega arith))

-- What holds back.

abbrev pub ReachesOwn : PlainSite → Reach → Type 0
ReachesOwn s reachable = Unit {0}
ReachesOwn s (held_by_depend d) = IsIndex (length s.depends) d
ReachesOwn s (held_by_host h) = IsIndex (length s.checkables) h

abbrev IsBelow : ℕ → Option ℕ → Type 0
IsBelow n None = Unit {0}
IsBelow n (Some k) = k < n

host_none : (n : ℕ) (o : Option ℕ) → o ≡ None → IsBelow n o
host_none n None e = tt
host_none n (Some h) e = absurd cc

host_some : (m n : ℕ) (o : Option ℕ) → m ≤ n → IsSomeAnd o (IsIndex m) → IsBelow n o
host_some m n None l h = tt
host_some m n (Some k) l h = omega (arith, l, h)

length_parts : {X : Type 0} (xs ys : List X) → length xs ≤ length (xs ++ ys)
length_parts [] ys = omega arith
length_parts (x ∷ xs) ys = let h : length xs ≤ length (xs ++ ys) = length_parts xs ys in omega (arith, h)

hosts_own : (cs : List PlainCheck) → AreHostsThenServices cs → All (λ c. IsBelow (length cs) c.host) cs
hosts_own cs order =
    let many : length order.hosts ≤ length cs = subst (λ (xs : List PlainCheck). length order.hosts ≤ length xs) (sym order.in_order) (length_parts order.hosts order.services) in
    subst (All (λ (c : PlainCheck). IsBelow (length cs) c.host)) (sym order.in_order)
    (All-append (λ (c : PlainCheck). IsBelow (length cs) c.host) order.hosts order.services
    (All-weaker (λ (c : PlainCheck). c.host ≡ None) (λ (c : PlainCheck). IsBelow (length cs) c.host) (λ c e. host_none (length cs) c.host e) order.hosts order.hosts_have_none)
    (All-weaker (λ (c : PlainCheck). IsSomeAnd c.host (IsIndex (length order.hosts))) (λ (c : PlainCheck). IsBelow (length cs) c.host) (λ c h. host_some (length order.hosts) (length cs) c.host many h) order.services order.services_have_one))

host_at : (n : ℕ) (cs : List PlainCheck) (k : ℕ) → All (λ c. IsBelow n c.host) cs → All (λ h. h < n) (host_in (slice_get cs k))
host_at n [] k h = All-nil (λ h. h < n)
host_at n (c ∷ cs) zero h = by c.host (All-head (λ x. IsBelow n x.host) c cs h) refl
  where
    by : (o : Option ℕ) → IsBelow n o → c.host ≡ o → All (λ h. h < n) (host_in (Some c))
    by None b e = subst (λ (o : Option ℕ). All (λ h. h < n) (host_in (Some (record c { host = o })))) (sym e) (All-nil (λ h. h < n))
    by (Some p) b e = subst (λ (o : Option ℕ). All (λ h. h < n) (host_in (Some (record c { host = o })))) (sym e) (All-cons (λ h. h < n) p [] b (All-nil (λ h. h < n)))
host_at n (c ∷ cs) (suc k) h = host_at n cs k (All-tail (λ x. IsBelow n x.host) c cs h)

pick_host : (s : PlainSite) (b : Bool) (h : ℕ) → IsIndex (length s.checkables) h → ReachesOwn s (cond b (held_by_host h) reachable)
pick_host s true h own = own
pick_host s false h own = tt

host_back_own : (s : PlainSite) (o : Outlook) (blocked : ℕ → Bool) (purpose : Purpose) (hs : List ℕ) → All (λ h. h < length s.checkables) hs → ReachesOwn s (host_back o blocked purpose hs)
host_back_own s o blocked for_checks [] own = tt
host_back_own s o blocked for_checks (h ∷ hs) own = tt
host_back_own s o blocked for_notes [] own = tt
host_back_own s o blocked for_notes (h ∷ hs) own = pick_host s _ h (All-head (λ p. p < length s.checkables) h hs own)

first_back_own : (o : Outlook) (blocked : ℕ → Bool) (c k : ℕ) (ds : List DependSpec) (r : Reach) (s : PlainSite) → k + length ds ≤ length s.depends → ReachesOwn s r → ReachesOwn s (depend_or (first_back o blocked c k ds) r)
first_back_own o blocked c k [] r s many own = own
first_back_own o blocked c k (d ∷ ds) r s many own =
    let rest : ReachesOwn s (depend_or (first_back o blocked c (suc k) ds) r) = first_back_own o blocked c (suc k) ds r s (omega (arith, many)) own in
    let here : k < length s.depends = omega (arith, many) in
    elim (nat_eq d.child c && holds_back o blocked d) as (λ b. ReachesOwn s (depend_or (cond b (Some k) (first_back o blocked c (suc k) ds)) r)) [ true ↦ here | false ↦ rest ]

reach_in_own : (o : Outlook) (steps c : ℕ) → AreHostsThenServices o.site.checkables → ReachesOwn o.site (reach_in o steps c)
reach_in_own o zero c order = tt
reach_in_own o (suc steps) c order =
    let blocked : ℕ → Bool = λ p. is_held (reach_in o steps p) in
    first_back_own o blocked c 0 o.site.depends _ o.site (omega arith)
    (host_back_own o.site o blocked o.purpose (host_in (slice_get o.site.checkables c)) (host_at (length o.site.checkables) o.site.checkables c (hosts_own o.site.checkables order)))

-- Outcomes.

abbrev OwnOr : PlainSite → Option Outcome → Type 0
OwnOr s None = Unit {0}
OwnOr s (Some o) = NamesOwn s o

abbrev AllOwn : PlainSite → List (Option Outcome) → Type 0
AllOwn s [] = Unit {0}
AllOwn s (o ∷ os) = OwnOr s o × AllOwn s os

first_own : (s : PlainSite) (last : Outcome) (os : List (Option Outcome)) → NamesOwn s last → AllOwn s os → NamesOwn s (first_or last os)
first_own s last [] own all = own
first_own s last (None ∷ os) own all = first_own s last os own all.1
first_own s last (Some o ∷ os) own all = all.0

where_own : (s : PlainSite) (b : Bool) (o : Outcome) → NamesOwn s o → OwnOr s (where_so b o)
where_own s true o own = own
where_own s false o own = tt

held_own : (s : PlainSite) (r : Reach) → ReachesOwn s r → OwnOr s (held_so r)
held_own s reachable own = tt
held_own s (held_by_depend d) own = own
held_own s (held_by_host h) own = own

downtime_own : (s : PlainSite) (o : Option ℕ) → OwnOr s (downtime_so o)
downtime_own s None = tt
downtime_own s (Some n) = tt

sent_own : (s : PlainSite) (us : List ℕ) → All (IsIndex (length s.users)) us → NamesOwn s (sent_to us)
sent_own s [] own = tt
sent_own s (u ∷ us) own = own

-- the causes that hold a notification back, as the definition has them
abbrev causes : (ℕ → ℕ → Bool) → Case → ℕ → NotifySpec → NoteKind → List (Option Outcome)
causes holds x n note k =
    where_so (not x.after.notes_on) outcome.Disabled
    ∷ held_so x.reach
    ∷ downtime_so x.downtime
    ∷ where_so (tells_state k && x.after.flapping) outcome.Flapping
    ∷ where_so (is_for_problem k && is_on x.after.ack) outcome.Acknowledged
    ∷ where_so (not (period_holds holds note.period x.entry.moment)) outcome.Period
    ∷ where_so (not (takes_kind note.kinds k)) outcome.Kind
    ∷ where_so (tells_state k && not (takes_state note.states x.after.state)) outcome.State
    ∷ where_so (is_for_problem k && is_early x note.begin) outcome.TooEarly
    ∷ where_so (is_for_problem k && is_late x note.«end») outcome.TooLate
    ∷ where_so (is_for_problem k && is_repeat x n note) outcome.Repeat
    ∷ []

causes_own : (s : PlainSite) (holds : ℕ → ℕ → Bool) (x : Case) (n : ℕ) (note : NotifySpec) (k : NoteKind) → ReachesOwn s x.reach → AllOwn s (causes holds x n note k)
causes_own s holds x n note k reach = (
  where_own s (not x.after.notes_on) outcome.Disabled tt,
  (
    held_own s x.reach reach,
    (
      downtime_own s x.downtime,
      (
        where_own s (tells_state k && x.after.flapping) outcome.Flapping tt,
        (
          where_own s (is_for_problem k && is_on x.after.ack) outcome.Acknowledged tt,
          (
            where_own s (not (period_holds holds note.period x.entry.moment)) outcome.Period tt,
            (
              where_own s (not (takes_kind note.kinds k)) outcome.Kind tt,
              (
                where_own s (tells_state k && not (takes_state note.states x.after.state)) outcome.State tt,
                (where_own s (is_for_problem k && is_early x note.begin) outcome.TooEarly tt, (where_own s (is_for_problem k && is_late x note.«end») outcome.TooLate tt, (where_own s (is_for_problem k && is_repeat x n note) outcome.Repeat tt, tt))),
              ),
            ),
          ),
        ),
      ),
    ),
  ),
)

outcome_own : (s : PlainSite) (holds : ℕ → ℕ → Bool) (x : Case) (n : ℕ) (note : NotifySpec) (k : NoteKind) → ReachesOwn s x.reach → All (IsIndex (length s.users)) note.users → NamesOwn s (outcome_of s holds x n note k)
outcome_own s holds x n note k reach users =
    first_own s (sent_to (receivers s holds x n note k)) (causes holds x n note k)
    (sent_own s (receivers s holds x n note k) (All-filter (λ u. receives holds x n k u (slice_get s.users u)) (IsIndex (length s.users)) note.users users))
    (causes_own s holds x n note k reach)

kinds_own : (s : PlainSite) (holds : ℕ → ℕ → Bool) (x : Case) (n : ℕ) (note : NotifySpec) → n < length s.notifies → ReachesOwn s x.reach → All (IsIndex (length s.users)) note.users → (ks : List NoteKind) →
    All (DecidesOwn s) (map (λ k. record { notification = n; kind = k; outcome = outcome_of s holds x n note k }) ks)
kinds_own s holds x n note below reach users [] = All-nil (DecidesOwn s)
kinds_own s holds x n note below reach users (k ∷ ks) =
    All-cons (DecidesOwn s) _ _ (record { notification = below; outcome = outcome_own s holds x n note k reach users }) (kinds_own s holds x n note below reach users ks)

decided_own : (s : PlainSite) (holds : ℕ → ℕ → Bool) (x : Case) (c n : ℕ) (notes : List NotifySpec) → n + length notes ≤ length s.notifies → ReachesOwn s x.reach → All (TellsUsers (length s.checkables) (length s.users) (length s.periods)) notes →
    All (DecidesOwn s) (decided_from s holds x c n notes)
decided_own s holds x c n [] many reach tells = All-nil (DecidesOwn s)
decided_own s holds x c n (note ∷ notes) many reach tells =
    let Tells : NotifySpec → Type 0 = TellsUsers (length s.checkables) (length s.users) (length s.periods) in
    let rest : All (DecidesOwn s) (decided_from s holds x c (suc n) notes) = decided_own s holds x c (suc n) notes (omega (arith, many)) reach (All-tail Tells note notes tells) in
    let here = kinds_own s holds x n note (omega (arith, many)) reach (All-head Tells note notes tells).receivers (kinds_of x.before x.after x.entry) in
    elim (nat_eq note.checkable c) as (λ b. All (DecidesOwn s) (cond b (map (λ k. record { notification = n; kind = k; outcome = outcome_of s holds x n note k }) (kinds_of x.before x.after x.entry)) [] ++ decided_from s holds x c (suc n) notes)) [
      | true ↦ All-append (DecidesOwn s) _ (decided_from s holds x c (suc n) notes) here rest
      | false ↦ rest
    ]

pub decisions_own : (s : PlainSite) (holds : ℕ → ℕ → Bool) (c : ℕ) (check : PlainCheck) (h : List Entry) (e : Entry) (seen : List Seen) → IsSound s → All (DecidesOwn s) (decisions_of s holds c check h e seen)
decisions_own s holds c check h e seen sound =
    let x : Case = record {
      check = check;
      history = h;
      entry = e;
      before = view_of check h;
      after = view_of check (h ++ e ∷ []);
      reach = reach_of (record { site = s; holds = holds; purpose = for_notes; moment = e.moment; seen = seen }) c;
      downtime = in_effect check (h ++ e ∷ []) e.moment;
    } in
    decided_own s holds x c 0 s.notifies (omega arith) (reach_in_own (record { site = s; holds = holds; purpose = for_notes; moment = e.moment; seen = seen }) (length s.checkables) c sound.in_order) sound.notifies
