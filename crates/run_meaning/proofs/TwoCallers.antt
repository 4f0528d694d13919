-- Two callers on a host and a service of it: both rounds of them are rounds, whichever acted first.
use Rattle.std.proofs.Common.{◌≡◌, ◌<◌, ◌≤◌, ℕ, zero, suc, List, [], ◌∷◌, ◌++◌, take, map, Some, Bool, refl, sym, ap, subst, arith, slice_get, length, lit<, cond, ◌-◌}
use Rattle.site_model.specs.declared.entry.Entry.{Entry}
use Rattle.site_model.specs.declared.event.Event.{Event}
use Rattle.site_model.specs.declared.sight.Sight.{Sight}
use Rattle.run_meaning.specs.Turns.{Asked, of_index}
use Rattle.run_meaning.specs.Rounds.{behind, entries_by, events_on, IsMade, IsEntryFor, IsRound}
use Rattle.run_meaning.specs.Dealing.{refused_report, dealt, taken_reports, report_refusals, still}
use Rattle.run_meaning.specs.TwoCallers.{on, checked, reported, outstanding, report_taken, host, service, rules, nothing, down, events, of_host, sight, of_service, round, both, own_service, frozen, twice, second, falling, one_before, on_service, stale}
use Rattle.run_meaning.proofs.Parts.{apart}

-- lines to the first, reports by their orders, ticks by their checkables
pub deals : dealt 2 (on 7 ∷ on 8 ∷ []) (report_taken 1 5 ∷ report_taken 2 6 ∷ []) (on 0 ∷ on 3 ∷ []) ≡ (on 7 ∷ on 8 ∷ checked 6 ∷ on 0 ∷ []) ∷ (checked 5 ∷ on 3 ∷ []) ∷ []
deals = refl

-- the first report of an order is taken, and a second isn't
pub takes : taken_reports (outstanding 1 5 ∷ outstanding 2 6 ∷ []) (reported 2 ∷ reported 2 ∷ reported 3 ∷ []) ≡ report_taken 2 6 ∷ []
takes = refl

pub refuses : report_refusals (outstanding 1 5 ∷ outstanding 2 6 ∷ []) (reported 2 ∷ reported 2 ∷ reported 3 ∷ []) ≡ refused_report 2 ∷ refused_report 3 ∷ []
refuses = refl

pub leaves : still (reported 2 ∷ reported 2 ∷ reported 3 ∷ []) (outstanding 1 5 ∷ outstanding 2 6 ∷ []) ≡ outstanding 1 5 ∷ []
leaves = refl

only : {A : Type 0} (P : A → Type 0) (x : A) → P x → (i : ℕ) (y : A) → slice_get (x ∷ []) i ≡ Some y → P y
only P x p zero y h = let e : x ≡ y = cc in subst P e p
only P x p (suc i) y h = absurd cc

each : (n : ℕ) (P : ℕ → Entry → Type 0) → P 0 of_host → P 1 (of_service n) → (c i : ℕ) (e : Entry) → slice_get (of_index c (round n)) i ≡ Some e → P c e
each n P p q zero i e h = only (P 0) of_host p i e h
each n P p q (suc zero) i e h = only (P 1) (of_service n) q i e h
each n P p q (suc (suc c)) i e h = absurd cc

no_more : {A : Type 0} (x : A) (i : ℕ) (y : A) → slice_get (x ∷ []) i ≡ Some y → x ≡ y
no_more x zero y h = cc
no_more x (suc i) y h = absurd cc

-- P holds of both callers' events, and there are no others
by_caller : (P : ℕ → ℕ → Type 0) → P 0 0 → P 1 0 → (k i : ℕ) (a : Asked) → slice_get (of_index k events) i ≡ Some a → P k i
by_caller P p q zero zero a h = p
by_caller P p q zero (suc i) a h = absurd cc
by_caller P p q (suc zero) zero a h = q
by_caller P p q (suc zero) (suc i) a h = absurd cc
by_caller P p q (suc (suc k)) i a h = absurd cc

one_if : Bool → List Event
one_if t = cond t (down ∷ []) []

taken : (n k c : ℕ) → k < 2 → map (λ (e : Entry). e.event) (entries_by k (of_index c (round n))) ≡ events_on c (of_index k events)
taken n zero zero h = refl
taken n zero (suc zero) h = refl
taken n zero (suc (suc c)) h = sym (ap (λ t. cond t (down ∷ []) []) (apart 0 (suc (suc c)) (λ q. omega (arith, q))))
taken n (suc zero) zero h = refl
taken n (suc zero) (suc zero) h = refl
taken n (suc zero) (suc (suc c)) h = sym (ap (λ t. cond t (down ∷ []) []) (apart 1 (suc (suc c)) (λ q. omega (arith, q))))
taken n (suc (suc k)) c h = absurd (omega (arith, h))

made : (n c i : ℕ) (e : Entry) → slice_get (of_index c (round n)) i ≡ Some e → IsMade rules 10 (behind nothing (round n)) c (of_index c nothing ++ take i (of_index c (round n))) e
made n zero zero e h = subst (λ z. IsMade rules 10 (behind nothing (round n)) 0 [] z) (no_more of_host 0 e h) (record { check = host; is = refl; made = refl })
made n zero (suc i) e h = absurd cc
made n (suc zero) zero e h = subst (λ z. IsMade rules 10 (behind nothing (round n)) 1 [] z) (no_more (of_service n) 0 e h) (record { check = service; is = refl; made = refl })
made n (suc zero) (suc i) e h = absurd cc
made n (suc (suc c)) i e h = absurd cc

abbrev SeenAt : ℕ → ℕ → Sight → Type 0
SeenAt n c x = (length (of_index x.checkable nothing) ≤ x.count) × (x.count ≤ length (behind nothing (round n) x.checkable))

seen : (n : ℕ) → n ≤ 1 → (c i j : ℕ) (e : Entry) (x : Sight) → slice_get (of_index c (round n)) i ≡ Some e → slice_get e.sights j ≡ Some x → (length (of_index x.checkable nothing) ≤ x.count) × (x.count ≤ length (behind nothing (round n) x.checkable))
seen n le c i j e x h k =
    each n (λ c e. (j : ℕ) (x : Sight) → slice_get e.sights j ≡ Some x → SeenAt n c x)
    (λ j x k. absurd cc)
    (λ j x k. only (SeenAt n 1) (record { checkable = 0; count = n }) (omega arith, le) j x k)
    c i e h j x k

first_alone : (k i : ℕ) (a : Asked) → slice_get (of_index k events) i ≡ Some a → i ≡ 0
first_alone k i a h = by_caller (λ k i. i ≡ 0) refl refl k i a h

counted : (n : ℕ) → n ≤ 1 → length (entries_by 1 (take (n - 0) (of_host ∷ []))) ≡ 0
counted zero h = refl
counted (suc zero) h = refl
counted (suc (suc n)) h = absurd (omega (arith, h))

abbrev Own : ℕ → ℕ → ℕ → Sight → Type 0
Own n k i x = length (entries_by k (take (x.count - length (of_index x.checkable nothing)) (of_index x.checkable (round n)))) ≡ length (events_on x.checkable (take i (of_index k events)))

own : (n : ℕ) → n ≤ 1 → (k i m : ℕ) (e : Entry) (x : Sight) → IsEntryFor (of_index k events) (round n) k i e → slice_get e.sights m ≡ Some x → Own n k i x
own n le zero zero m e x p h =
    let a : record { checkable = 0; event = down } ≡ p.asked = no_more _ 0 p.asked p.at in
    let is : of_host ≡ e = no_more of_host 0 e (subst (λ (a : Asked). slice_get (entries_by 0 (of_index a.checkable (round n))) (length (events_on a.checkable (take 0 (of_index 0 events)))) ≡ Some e) (sym a) p.made) in
    let none : slice_get of_host.sights m ≡ Some x = subst (λ (e : Entry). slice_get e.sights m ≡ Some x) (sym is) h in
    absurd cc
own n le zero (suc i) m e x p h = absurd (omega (arith, first_alone 0 (suc i) p.asked p.at))
own n le (suc zero) zero m e x p h =
    let a : record { checkable = 1; event = down } ≡ p.asked = no_more _ 0 p.asked p.at in
    let is : of_service n ≡ e = no_more (of_service n) 0 e (subst (λ (a : Asked). slice_get (entries_by 1 (of_index a.checkable (round n))) (length (events_on a.checkable (take 0 (of_index 1 events)))) ≡ Some e) (sym a) p.made) in
    let at : slice_get (sight n) m ≡ Some x = subst (λ (e : Entry). slice_get e.sights m ≡ Some x) (sym is) h in
    only (Own n 1 0) (record { checkable = 0; count = n }) (counted n le) m x at
own n le (suc zero) (suc i) m e x p h = absurd (omega (arith, first_alone 1 (suc i) p.asked p.at))
own n le (suc (suc k)) i m e x p h = let q = p.at in absurd cc

pub rounds : (n : ℕ) → n ≤ 1 → IsRound rules 10 nothing events (round n)
rounds n le = record {
  whole = refl;
  taken = taken n;
  callers = each n (λ c e. e.caller < 2) (lit< tt) (lit< tt);
  made = made n;
  ancestors = each n (λ c e. map (λ (x : Sight). x.checkable) e.sights ≡ rules.ancestors c) refl refl;
  seen = seen n le;
  rising = λ k i j m o e f x y lt p q. let z = first_alone k j q.asked q.at in absurd (omega (arith, lt, z));
  own = own n le;
}

pub frozen_is_none : IsRound rules 10 nothing both frozen → ⊥
frozen_is_none x =
    let q : 0 ≡ 1 = x.own 0 1 0 (own_service 0) (record { checkable = 0; count = 0 }) (record { asked = record { checkable = 1; event = down }; at = refl; made = refl }) refl in
    omega (arith, q)

pub falling_is_none : IsRound rules 10 nothing twice falling → ⊥
falling_is_none x =
    let q : 1 ≤ 0 =
    x.rising 1 0 1 0 0 (of_service 1) second (record { checkable = 0; count = 1 }) (record { checkable = 0; count = 0 }) (omega arith)
    (record { asked = record { checkable = 1; event = down }; at = refl; made = refl }) (record { asked = record { checkable = 1; event = down }; at = refl; made = refl }) refl refl refl in
    omega (arith, q)

pub beyond_is_none : IsRound rules 10 nothing events (round 2) → ⊥
beyond_is_none x = let (a, b) = x.seen 1 0 0 (of_service 2) (record { checkable = 0; count = 2 }) refl refl in omega (arith, b)

pub stale_is_none : IsRound rules 10 one_before on_service stale → ⊥
stale_is_none x = let (a, b) = x.seen 1 0 0 (own_service 0) (record { checkable = 0; count = 0 }) refl refl in omega (arith, a)
