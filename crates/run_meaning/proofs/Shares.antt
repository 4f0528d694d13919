-- In a round the entries of a checkable are the events dealt on it; callers that act one after another make a round.
use Rattle.std.proofs.Common.{◌≡◌, ◌<◌, ◌≤◌, ◌+◌, ◌≢◌, ℕ, zero, suc, List, [], ◌∷◌, ◌++◌, length, map, filter, slice_get, nat_eq, cond, Bool, true, false, Some, refl, sym, ap, ◌∙◌, subst, arith, eq-eqb, eqb-true, inl, inr, ◌⊎◌, IsPermutation}
use Rattle.std.proofs.lemmas.Bool.{cases_lt}
use Rattle.std.proofs.lemmas.List.{append-nil, map-append}
use Rattle.site_model.specs.declared.entry.Entry.{Entry}
use Rattle.site_model.specs.declared.event.Event.{Event}
use Rattle.run_meaning.specs.Turns.{Asked, Histories, from_on, of_index}
use Rattle.run_meaning.specs.Acts.{Rules}
use Rattle.run_meaning.specs.Rounds.{entries_by, events_on, IsRound}
use Rattle.run_meaning.specs.Alone.{Move, moves_of, one_by_one, taken_by, round_of, AreOnSite}
use Rattle.run_meaning.specs.Shares.{done_in, dealt_on}
use Rattle.run_meaning.proofs.Lists.{get_map, length_map, same_of_index, of_index_each, of_index_past, length_from_on, keeps_append}
use Rattle.run_meaning.proofs.Meeting.{dealt_by, moves_make}
use Rattle.run_meaning.proofs.Parts.{apart, in_parts, part, parts}

-- Entries and events.

-- the entries of a caller, each beside it
beside : (k : ℕ) (es : List Entry) → part (λ (p : ℕ × Event). p.0) k (map done_in es) ≡ map (λ e. (k, e)) (map (λ (e : Entry). e.event) (entries_by k es))
beside k [] = refl
beside k (e ∷ es) = by (nat_eq e.caller k) refl (beside k es)
  where
    by : (t : Bool) → nat_eq e.caller k ≡ t → part (λ (p : ℕ × Event). p.0) k (map done_in es) ≡ map (λ e. (k, e)) (map (λ (e : Entry). e.event) (entries_by k es)) → cond t ((e.caller, e.event) ∷ part (λ (p : ℕ × Event). p.0) k (map done_in es)) (part (λ (p : ℕ × Event). p.0) k (map done_in es)) ≡ map (λ e. (k, e)) (map (λ (e : Entry). e.event) (cond t (e ∷ entries_by k es) (entries_by k es)))
    by true q h = ap (λ z. (z, e.event) ∷ part (λ (p : ℕ × Event). p.0) k (map done_in es)) (eqb-true e.caller k q) ∙ ap (λ z. (k, e.event) ∷ z) h
    by false q h = h

dealt_parts : (c : ℕ) (es : List Entry) (first : ℕ) (events : List (List Asked)) → ((k : ℕ) → k < length events → map (λ (e : Entry). e.event) (entries_by (first + k) es) ≡ events_on c (of_index k events)) → parts (λ (p : ℕ × Event). p.0) first (length events) (map done_in es) ≡ dealt_on c first events
dealt_parts c es first [] h = refl
dealt_parts c es first (evs ∷ more) h =
    let z : first + 0 ≡ first = omega arith in
    let here : map (λ (e : Entry). e.event) (entries_by first es) ≡ events_on c evs = ap (λ k. map (λ (e : Entry). e.event) (entries_by k es)) (sym z) ∙ h 0 (omega arith) in
    ap (λ z. z ++ parts (λ (p : ℕ × Event). p.0) (suc first) (length more) (map done_in es)) (beside first es ∙ ap (map (λ e. (first, e))) here)
    ∙ ap (λ z. map (λ e. (first, e)) (events_on c evs) ++ z) (dealt_parts c es (suc first) more (λ k lt. let e : suc first + k ≡ first + suc k = omega arith in ap (λ k. map (λ (e : Entry). e.event) (entries_by k es)) e ∙ h (suc k) (omega arith)))

pub entries_are_dealt : (b : Rules) (moment : ℕ) (before : Histories) (events : List (List Asked)) (round : Histories) → IsRound b moment before events round → (c : ℕ) → IsPermutation (map done_in (of_index c round)) (dealt_on c 0 events)
entries_are_dealt b moment before events round x c =
    subst (IsPermutation (map done_in (of_index c round))) (dealt_parts c (of_index c round) 0 events (λ k lt. let e : 0 + k ≡ k = omega arith in ap (λ k. map (λ (e : Entry). e.event) (entries_by k (of_index c round))) e ∙ x.taken k c lt))
    (in_parts (λ (p : ℕ × Event). p.0) (length events) 0 (map done_in (of_index c round)) few)
  where
    few : (i : ℕ) (p : ℕ × Event) → slice_get (map done_in (of_index c round)) i ≡ Some p → (0 ≤ p.0) × (p.0 < 0 + length events)
    few i p h =
        let (e, at, is) = get_map done_in (of_index c round) i p h in
        subst (λ (p : ℕ × Event). (0 ≤ p.0) × (p.0 < 0 + length events)) is (let q = x.callers c i e at in (omega arith, omega arith))

-- One after another.

taken_append : (k : ℕ) (ms ns : List Move) → taken_by k (ms ++ ns) ≡ taken_by k ms ++ taken_by k ns
taken_append k ms ns =
    ap (map (λ (m : Move). m.asked)) (keeps_append (λ (m : Move). nat_eq m.caller k) ms ns)
    ∙ map-append (λ (m : Move). m.asked) (filter (λ m. nat_eq m.caller k) ms) (filter (λ m. nat_eq m.caller k) ns)

taken_own : (k : ℕ) (as' : List Asked) → taken_by k (moves_of k as') ≡ as'
taken_own k [] = refl
taken_own k (a ∷ as') =
    ap (λ t. map (λ (m : Move). m.asked) (cond t (record { caller = k; asked = a } ∷ filter (λ (m : Move). nat_eq m.caller k) (moves_of k as')) (filter (λ (m : Move). nat_eq m.caller k) (moves_of k as')))) (eq-eqb k k refl)
    ∙ ap (λ z. a ∷ z) (taken_own k as')

taken_other : (j k : ℕ) → j ≢ k → (as' : List Asked) → taken_by k (moves_of j as') ≡ []
taken_other j k n [] = refl
taken_other j k n (a ∷ as') =
    ap (λ t. map (λ (m : Move). m.asked) (cond t (record { caller = j; asked = a } ∷ filter (λ (m : Move). nat_eq m.caller k) (moves_of j as')) (filter (λ (m : Move). nat_eq m.caller k) (moves_of j as')))) (apart j k n)
    ∙ taken_other j k n as'

taken_before : (first k : ℕ) (ess : List (List Asked)) → k < first → taken_by k (one_by_one first ess) ≡ []
taken_before first k [] lt = refl
taken_before first k (es ∷ ess) lt =
    taken_append k (moves_of first es) (one_by_one (suc first) ess)
    ∙ ap (λ z. z ++ taken_by k (one_by_one (suc first) ess)) (taken_other first k (λ e. omega (arith, e, lt)) es)
    ∙ taken_before (suc first) k ess (omega arith)

taken_one : (first k : ℕ) (ess : List (List Asked)) → taken_by (first + k) (one_by_one first ess) ≡ of_index k ess
taken_one first k [] = refl
taken_one first zero (es ∷ ess) =
    let z : first + 0 ≡ first = omega arith in
    ap (λ k. taken_by k (one_by_one first (es ∷ ess))) z
    ∙ taken_append first (moves_of first es) (one_by_one (suc first) ess)
    ∙ ap (λ z. z ++ taken_by first (one_by_one (suc first) ess)) (taken_own first es)
    ∙ ap (λ z. es ++ z) (taken_before (suc first) first ess (omega arith))
    ∙ append-nil es
taken_one first (suc k) (es ∷ ess) =
    let z : first + suc k ≡ suc first + k = omega arith in
    taken_append (first + suc k) (moves_of first es) (one_by_one (suc first) ess)
    ∙ ap (λ z. z ++ taken_by (first + suc k) (one_by_one (suc first) ess)) (taken_other first (first + suc k) (λ e. omega (arith, e)) es)
    ∙ ap (λ k. taken_by k (one_by_one (suc first) ess)) z
    ∙ taken_one (suc first) k ess

all_taken : (ess : List (List Asked)) → dealt_by (length ess) (one_by_one 0 ess) ≡ ess
all_taken ess =
    same_of_index (dealt_by (length ess) (one_by_one 0 ess)) ess len (λ c. by c (cases_lt c (length ess)))
  where
    len : length (dealt_by (length ess) (one_by_one 0 ess)) ≡ length ess
    len = length_map (λ k. taken_by k (one_by_one 0 ess)) (from_on 0 (length ess)) ∙ length_from_on 0 (length ess)

    by : (c : ℕ) → (c < length ess) ⊎ (length ess ≤ c) → of_index c (dealt_by (length ess) (one_by_one 0 ess)) ≡ of_index c ess
    by c (inl lt) = of_index_each (λ k. taken_by k (one_by_one 0 ess)) 0 (length ess) c lt ∙ taken_one 0 c ess
    by c (inr le) = of_index_past (dealt_by (length ess) (one_by_one 0 ess)) c (omega (arith, len)) ∙ sym (of_index_past ess c le)

pub get_either : {A : Type 0} (xs ys : List A) (i : ℕ) (x : A) → slice_get (xs ++ ys) i ≡ Some x → (slice_get xs i ≡ Some x) ⊎ ((j : ℕ) × (slice_get ys j ≡ Some x))
get_either [] ys i x h = inr (i, h)
get_either (y ∷ xs) ys zero x h = inl h
get_either (y ∷ xs) ys (suc i) x h = get_either xs ys i x h

-- each move is one of a caller's
record IsOneOf (first : ℕ) (ess : List (List Asked)) (m : Move) : Type 0 where
  list : ℕ
  place : ℕ
  inside : list < length ess
  caller : m.caller ≡ first + list
  at : slice_get (of_index list ess) place ≡ Some m.asked

one_of : (first : ℕ) (ess : List (List Asked)) (i : ℕ) (m : Move) → slice_get (one_by_one first ess) i ≡ Some m → IsOneOf first ess m
one_of first [] i m h = absurd cc
one_of first (es ∷ ess) i m h = by (get_either (moves_of first es) (one_by_one (suc first) ess) i m h) (one_of (suc first) ess)
  where
    by : (slice_get (moves_of first es) i ≡ Some m) ⊎ ((j : ℕ) × (slice_get (one_by_one (suc first) ess) j ≡ Some m)) → ((i : ℕ) (m : Move) → slice_get (one_by_one (suc first) ess) i ≡ Some m → IsOneOf (suc first) ess m) → IsOneOf first (es ∷ ess) m
    by (inl g) f =
        let (a, at, is) = get_map (λ (a : Asked). record { caller = first; asked = a }) es i m g in
        record { list = 0; place = i; inside = omega arith; caller = (let e = ap (λ (m : Move). m.caller) is in omega arith); at = at ∙ ap (λ (m : Move). Some m.asked) is }
    by (inr (j, g)) f = let o = f j m g in record { list = suc o.list; place = o.place; inside = (let q = o.inside in omega arith); caller = (let q = o.caller in omega arith); at = o.at }

pub one_after_another : (b : Rules) (moment : ℕ) (before : Histories) (events : List (List Asked)) → ((k : ℕ) → AreOnSite b.site (of_index k events)) → IsRound b moment before events (round_of b moment before (one_by_one 0 events))
one_after_another b moment before events h =
    subst (λ z. IsRound b moment before z (round_of b moment before (one_by_one 0 events))) (all_taken events)
    (moves_make b moment before (length events) (one_by_one 0 events) few on_site)
  where
    few : (i : ℕ) (m : Move) → slice_get (one_by_one 0 events) i ≡ Some m → m.caller < length events
    few i m g = let o = one_of 0 events i m g in let p = o.inside in let q = o.caller in omega arith

    on_site : (i : ℕ) (m : Move) → slice_get (one_by_one 0 events) i ≡ Some m → m.asked.checkable < length b.site.checkables
    on_site i m g = let o = one_of 0 events i m g in h o.list o.place m.asked o.at
