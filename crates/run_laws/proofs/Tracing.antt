-- What callers tell of the events that they took makes a round.
use Rattle.std.proofs.Common.{◌≡◌, ◌<◌, ◌≤◌, ◌+◌, ◌-◌, ℕ, zero, suc, List, [], ◌∷◌, ◌++◌, length, take, map, filter, slice_get, nat_eq, cond, Bool, true, false, Some, inl, inr, ◌⊎◌, refl, sym, ap, ◌∙◌, subst, arith, length-append, take_at, eq-eqb, eqb-true}
use Rattle.std.proofs.lemmas.Bool.{cases_lt}
use Rattle.run_meaning.specs.Acts.{Rules}
use Rattle.run_meaning.specs.Rounds.{behind, entries_by, events_on, IsEntryFor, IsMade, IsRound}
use Rattle.run_meaning.specs.Turns.{Asked, Histories, of_index}
use Rattle.run_meaning.proofs.Lists.{get_at, get_map, get_of_map, kept_at, keeps_append, keeps_rising, length_map, one_at, place_of, take_map, take_next, within}
use Rattle.site_model.specs.declared.entry.Entry.{Entry}
use Rattle.site_model.specs.declared.event.Event.{Event}
use Rattle.site_model.specs.declared.sight.Sight.{Sight}
use Rattle.run_laws.specs.Traces.{AreTraced, IsTraced, Trace, entry_told, events_in, many_on}

-- Lists.

of_index_map : {A B : Type 0} (f : A → B) (k : ℕ) (xss : List (List A)) → of_index k (map (map f) xss) ≡ map f (of_index k xss)
of_index_map f k [] = refl
of_index_map f zero (xs ∷ xss) = refl
of_index_map f (suc k) (xs ∷ xss) = of_index_map f k xss

same_get : {A : Type 0} (xs ys : List A) → length xs ≡ length ys → ((n : ℕ) (y : A) → slice_get ys n ≡ Some y → slice_get xs n ≡ Some y) → xs ≡ ys
same_get [] [] l h = refl
same_get [] (y ∷ ys) l h = absurd (omega (arith, l))
same_get (x ∷ xs) [] l h = absurd (omega (arith, l))
same_get (x ∷ xs) (y ∷ ys) l h =
    let e : x ≡ y = one_at (x ∷ xs) 0 x y refl (h 0 y refl) in
    ap (λ z. z ∷ xs) e ∙ ap (λ z. y ∷ z) (same_get xs ys (omega (arith, l)) (λ n. h (suc n)))

get_earlier : {A : Type 0} (xs : List A) (i j : ℕ) (x : A) → i < j → slice_get xs i ≡ Some x → slice_get (take j xs) i ≡ Some x
get_earlier [] i j x lt at = absurd cc
get_earlier (y ∷ xs) i zero x lt at = absurd (omega (arith, lt))
get_earlier (y ∷ xs) zero (suc j) x lt at = at
get_earlier (y ∷ xs) (suc i) (suc j) x lt at = get_earlier xs i j x (omega (arith, lt)) at

module _ {A : Type 0} (test : A → Bool) (xs : List A) where
  one_further : (i : ℕ) (x : A) → slice_get xs i ≡ Some x → test x ≡ true → length (filter test (take (suc i) xs)) ≡ length (filter test (take i xs)) + 1
  one_further i x at here =
      ap (λ z. length (filter test z)) (take_next xs i x at)
      ∙ ap length (keeps_append test (take i xs) (x ∷ []))
      ∙ length-append (filter test (take i xs)) (filter test (x ∷ []))
      ∙ ap (λ t. length (filter test (take i xs)) + length (cond t (x ∷ []) [])) here

  -- what passes a test stands where as many pass it before
  same_place : (i j : ℕ) (x y : A) → slice_get xs i ≡ Some x → slice_get xs j ≡ Some y → test x ≡ true → test y ≡ true → length (filter test (take i xs)) ≡ length (filter test (take j xs)) → i ≡ j
  same_place i j x y at there is so n = by (cases_lt i j) (cases_lt j i)
    where
      by : (i < j) ⊎ (j ≤ i) → (j < i) ⊎ (i ≤ j) → i ≡ j
      by (inl lt) other = let a = one_further i x at is in let b = keeps_rising test (suc i) j xs (omega (arith, lt)) in absurd (omega (arith, a, b, n))
      by (inr le) (inl lt) = let a = one_further j y there so in let b = keeps_rising test (suc j) i xs (omega (arith, lt)) in absurd (omega (arith, a, b, n))
      by (inr le) (inr more) = omega (arith, le, more)

-- Events by their traces.

abbrev on : ℕ → Trace → Bool
on c t = nat_eq t.asked.checkable c

events_are : (c : ℕ) (ts : List Trace) → events_on c (events_in ts) ≡ map (λ t. t.asked.event) (filter (on c) ts)
events_are c [] = refl
events_are c (t ∷ ts) = by (nat_eq t.asked.checkable c) (events_are c ts)
  where
    by : (b : Bool) → events_on c (events_in ts) ≡ map (λ (t : Trace). t.asked.event) (filter (on c) ts) → cond b (t.asked.event ∷ events_on c (events_in ts)) (events_on c (events_in ts)) ≡ map (λ (t : Trace). t.asked.event) (cond b (t ∷ filter (on c) ts) (filter (on c) ts))
    by true h = ap (λ z. t.asked.event ∷ z) h
    by false h = h

many_is : (c : ℕ) (ts : List Trace) → many_on c ts ≡ length (filter (on c) ts)
many_is c ts = ap length (events_are c ts) ∙ length_map (λ (t : Trace). t.asked.event) (filter (on c) ts)

-- the event of an index is among those on its checkable, behind the ones before it
event_at : (ts : List Trace) (i : ℕ) (t : Trace) → slice_get ts i ≡ Some t → slice_get (events_on t.asked.checkable (events_in ts)) (many_on t.asked.checkable (take i ts)) ≡ Some t.asked.event
event_at ts i t at =
    let c = t.asked.checkable in
    ap (λ z. slice_get z (many_on c (take i ts))) (events_are c ts)
    ∙ ap (slice_get (map (λ (t : Trace). t.asked.event) (filter (on c) ts))) (many_is c (take i ts))
    ∙ get_of_map (λ (t : Trace). t.asked.event) (filter (on c) ts) (length (filter (on c) (take i ts))) t (kept_at (on c) ts i t at (eq-eqb c c refl))

module _ (r : Rules) (moment : ℕ) (before : Histories) (traces : List (List Trace)) (round : Histories) (x : AreTraced r moment before traces round) where
  abbrev es : ℕ → List Entry
  es c = of_index c round

  abbrev by_caller : ℕ → Entry → Bool
  by_caller k e = nat_eq e.caller k

  module _ (k i : ℕ) (t : Trace) (at : slice_get (of_index k traces) i ≡ Some t) where
    abbrev y : IsTraced r moment before round k (take i (of_index k traces)) t
    y = x.each k i t at

    abbrev new : Entry
    new = entry_told r moment before round k y.check t

    abbrev c : ℕ
    c = t.asked.checkable

    -- where its entry stands
    stands_at : slice_get (es c) (length t.stood) ≡ Some new
    stands_at = ap (λ z. slice_get z (length t.stood)) y.stands ∙ get_at t.stood y.rest new

    front_is : take (length t.stood) (es c) ≡ t.stood
    front_is = ap (take (length t.stood)) y.stands ∙ take_at t.stood (new ∷ y.rest) (length t.stood) refl

    -- and among the caller's own
    own_at : slice_get (entries_by k (es c)) (many_on c (take i (of_index k traces))) ≡ Some new
    own_at =
        ap (slice_get (entries_by k (es c))) (sym y.own ∙ ap (λ z. length (entries_by k z)) (sym front_is))
        ∙ kept_at (by_caller k) (es c) (length t.stood) new stands_at (eq-eqb k k refl)

  -- Each entry has its trace.

  record IsFound (c i : ℕ) (e : Entry) : Type 0 where
    index : ℕ
    trace : Trace
    at : slice_get (of_index e.caller traces) index ≡ Some trace
    here : trace.asked.checkable ≡ c
    front : take i (es c) ≡ trace.stood
    made : new e.caller index trace at ≡ e

  found_on : (i : ℕ) (e : Entry) (j : ℕ) (t : Trace) (at : slice_get (of_index e.caller traces) j ≡ Some t) → slice_get (es t.asked.checkable) i ≡ Some e → length (filter (on t.asked.checkable) (take j (of_index e.caller traces))) ≡ length (entries_by e.caller (take i (es t.asked.checkable)))
      → IsFound t.asked.checkable i e
  found_on i e j t at there nth =
      let k = e.caller in
      let c = t.asked.checkable in
      let n = length (entries_by k (take i (es c))) in
      let own = kept_at (by_caller k) (es c) i e there (eq-eqb k k refl) in
      let rank : many_on c (take j (of_index k traces)) ≡ n = many_is c (take j (of_index k traces)) ∙ nth in
      let is : new k j t at ≡ e = one_at (entries_by k (es c)) n (new k j t at) e (ap (slice_get (entries_by k (es c))) (sym rank) ∙ own_at k j t at) own in
      let here : length (entries_by k (take (length t.stood) (es c))) ≡ n = ap (λ z. length (entries_by k z)) (front_is k j t at) ∙ (y k j t at).own ∙ rank in
      let place : i ≡ length t.stood = same_place (by_caller k) (es c) i (length t.stood) e (new k j t at) there (stands_at k j t at) (eq-eqb k k refl) (eq-eqb k k refl) (sym here) in
      record { index = j; trace = t; at = at; here = refl; front = ap (λ m. take m (es c)) place ∙ front_is k j t at; made = is }

  found : (c i : ℕ) (e : Entry) → slice_get (es c) i ≡ Some e → IsFound c i e
  found c i e at =
      let k = e.caller in
      let ts = of_index k traces in
      let n = length (entries_by k (take i (es c))) in
      let w = within (entries_by k (es c)) n e (kept_at (by_caller k) (es c) i e at (eq-eqb k k refl)) in
      let len = x.mine k c (x.callers c i e at) ∙ many_is c ts in
      let p = place_of (on c) ts n (omega (arith, w, len)) in
      by p.index p.item p.at c (eqb-true p.item.asked.checkable c p.here) at p.nth
    where
      by : (j : ℕ) (t : Trace) → slice_get (of_index e.caller traces) j ≡ Some t → (c : ℕ) → t.asked.checkable ≡ c → slice_get (es c) i ≡ Some e → length (filter (on c) (take j (of_index e.caller traces))) ≡ length (entries_by e.caller (take i (es c))) → IsFound c i e
      by j t there c same =
          subst (λ c. slice_get (es c) i ≡ Some e → length (filter (on c) (take j (of_index e.caller traces))) ≡ length (entries_by e.caller (take i (es c))) → IsFound c i e) same
          (found_on i e j t there)

  -- Each event has its entry.

  taken : (k c : ℕ) → k < length traces → map (λ (e : Entry). e.event) (entries_by k (es c)) ≡ events_on c (events_in (of_index k traces))
  taken k c lt =
      same_get (map (λ (e : Entry). e.event) (entries_by k (es c))) (events_on c (events_in (of_index k traces))) (length_map (λ (e : Entry). e.event) (entries_by k (es c)) ∙ x.mine k c lt) each
    where
      ts : List Trace
      ts = of_index k traces

      on_its : (j : ℕ) (t : Trace) (at : slice_get ts j ≡ Some t) (c : ℕ) → t.asked.checkable ≡ c → (n : ℕ) (v : Event) → many_on c (take j ts) ≡ n → slice_get (events_on c (events_in ts)) n ≡ Some v → slice_get (map (λ (e : Entry). e.event) (entries_by k (es c))) n ≡ Some v
      on_its j t at c same = subst (λ c. (n : ℕ) (v : Event) → many_on c (take j ts) ≡ n → slice_get (events_on c (events_in ts)) n ≡ Some v → slice_get (map (λ (e : Entry). e.event) (entries_by k (es c))) n ≡ Some v) same here
        where
          here : (n : ℕ) (v : Event) → many_on t.asked.checkable (take j ts) ≡ n → slice_get (events_on t.asked.checkable (events_in ts)) n ≡ Some v → slice_get (map (λ (e : Entry). e.event) (entries_by k (es t.asked.checkable))) n ≡ Some v
          here n v rank is =
              let c = t.asked.checkable in
              let e : t.asked.event ≡ v = one_at (events_on c (events_in ts)) n t.asked.event v (ap (slice_get (events_on c (events_in ts))) (sym rank) ∙ event_at ts j t at) is in
              get_of_map (λ (e : Entry). e.event) (entries_by k (es c)) n (new k j t at) (ap (slice_get (entries_by k (es c))) (sym rank) ∙ own_at k j t at) ∙ ap Some e

      each : (n : ℕ) (v : Event) → slice_get (events_on c (events_in ts)) n ≡ Some v → slice_get (map (λ (e : Entry). e.event) (entries_by k (es c))) n ≡ Some v
      each n v is =
          let w = within (events_on c (events_in ts)) n v is in
          let p = place_of (on c) ts n (omega (arith, w, many_is c ts)) in
          on_its p.index p.item p.at c (eqb-true p.item.asked.checkable c p.here) n v (many_is c (take p.index ts) ∙ p.nth) is

  -- An entry by the event of its caller.

  abbrev events : List (List Asked)
  events = map events_in traces

  events_of : (k : ℕ) → of_index k events ≡ events_in (of_index k traces)
  events_of k = of_index_map (λ (t : Trace). t.asked) k traces

  record IsOf (k i : ℕ) (e : Entry) : Type 0 where
    trace : Trace
    at : slice_get (of_index k traces) i ≡ Some trace
    sights : e.sights ≡ trace.sights

  of_event : (k i : ℕ) (e : Entry) → IsEntryFor (of_index k events) round k i e → IsOf k i e
  of_event k i e p =
      let (t, at, same) = get_map (λ (t : Trace). t.asked) (of_index k traces) i p.asked (ap (λ z. slice_get z i) (sym (events_of k)) ∙ p.at) in
      let c = p.asked.checkable in
      let rank : length (events_on c (take i (of_index k events))) ≡ many_on c (take i (of_index k traces)) = ap (λ z. length (events_on c (take i z))) (events_of k) ∙ ap (λ z. length (events_on c z)) (take_map (λ (t : Trace). t.asked) i (of_index k traces)) in
      let there : slice_get (entries_by k (es c)) (many_on c (take i (of_index k traces))) ≡ Some e = ap (slice_get (entries_by k (es c))) (sym rank) ∙ p.made in
      let here : slice_get (entries_by k (es c)) (many_on c (take i (of_index k traces))) ≡ Some (new k i t at) = subst (λ (a : Asked). slice_get (entries_by k (es a.checkable)) (many_on a.checkable (take i (of_index k traces))) ≡ Some (new k i t at)) same (own_at k i t at) in
      let is : e ≡ new k i t at = one_at (entries_by k (es c)) (many_on c (take i (of_index k traces))) e (new k i t at) there here in
      record { trace = t; at = at; sights = ap (λ (e : Entry). e.sights) is }

  -- The round.

  made : (c i : ℕ) (e : Entry) → slice_get (es c) i ≡ Some e → IsMade r moment (behind before round) c (of_index c before ++ take i (es c)) e
  made c i e at =
      let f = found c i e at in
      let z = y e.caller f.index f.trace f.at in
      subst (λ c. take i (es c) ≡ f.trace.stood → IsMade r moment (behind before round) c (of_index c before ++ take i (es c)) e) f.here
      (λ front. subst (λ h. IsMade r moment (behind before round) f.trace.asked.checkable (of_index f.trace.asked.checkable before ++ h) e) (sym front)
      (subst (IsMade r moment (behind before round) f.trace.asked.checkable (of_index f.trace.asked.checkable before ++ f.trace.stood)) f.made (record { check = z.check; is = z.is; made = refl })))
      f.front

  ancestors : (c i : ℕ) (e : Entry) → slice_get (es c) i ≡ Some e → map (λ (s : Sight). s.checkable) e.sights ≡ r.ancestors c
  ancestors c i e at =
      let f = found c i e at in
      ap (λ (e : Entry). map (λ (s : Sight). s.checkable) e.sights) (sym f.made) ∙ (y e.caller f.index f.trace f.at).looked ∙ ap r.ancestors f.here

  seen : (c i j : ℕ) (e : Entry) (s : Sight) → slice_get (es c) i ≡ Some e → slice_get e.sights j ≡ Some s → (length (of_index s.checkable before) ≤ s.count) × (s.count ≤ length (behind before round s.checkable))
  seen c i j e s at here =
      let f = found c i e at in
      let z = (y e.caller f.index f.trace f.at).sights j s (ap (λ (e : Entry). slice_get e.sights j) f.made ∙ here) in
      (z.least, z.most)

  rising : (k i j m n : ℕ) (e f : Entry) (s u : Sight) → i < j → IsEntryFor (of_index k events) round k i e → IsEntryFor (of_index k events) round k j f → slice_get e.sights m ≡ Some s → slice_get f.sights n ≡ Some u → s.checkable ≡ u.checkable → s.count ≤ u.count
  rising k i j m n e f s u lt p q here there same =
      let a = of_event k i e p in
      let b = of_event k j f q in
      ((y k j b.trace b.at).sights n u (ap (λ z. slice_get z n) (sym b.sights) ∙ there)).rises i m a.trace s (get_earlier (of_index k traces) i j a.trace lt a.at) (ap (λ z. slice_get z m) (sym a.sights) ∙ here) same

  own : (k i m : ℕ) (e : Entry) (s : Sight) → IsEntryFor (of_index k events) round k i e → slice_get e.sights m ≡ Some s → length (entries_by k (take (s.count - length (of_index s.checkable before)) (of_index s.checkable round))) ≡ length (events_on s.checkable (take i (of_index k events)))
  own k i m e s p here =
      let a = of_event k i e p in
      ((y k i a.trace a.at).sights m s (ap (λ z. slice_get z m) (sym a.sights) ∙ here)).own
      ∙ sym (ap (λ z. length (events_on s.checkable (take i z))) (events_of k) ∙ ap (λ z. length (events_on s.checkable z)) (take_map (λ (t : Trace). t.asked) i (of_index k traces)))

  pub traced : IsRound r moment before events round
  traced =
      let many = length_map events_in traces in
      record {
        whole = x.whole;
        taken = λ k c lt. taken k c (omega (arith, lt, many)) ∙ ap (events_on c) (sym (events_of k));
        callers = λ c i e at. let w = x.callers c i e at in omega (arith, w, many);
        made = made;
        ancestors = ancestors;
        seen = seen;
        rising = rising;
        own = own;
      }

pub traces_make : (r : Rules) (moment : ℕ) (before : Histories) (traces : List (List Trace)) (round : Histories) → AreTraced r moment before traces round → IsRound r moment before (map events_in traces) round
traces_make r moment before traces round x = traced r moment before traces round x
