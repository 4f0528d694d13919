-- What gates tell: a thing waits for its gates exactly where something earlier on a track of its own is left.
use Rattle.std.proofs.Common.{◌≡◌, ◌≢◌, ◌==◌, ◌&&◌, ◌||◌, ◌+◌, ◌<◌, ◌≤◌, ℕ, zero, suc, nat_eq, nat_lt, Bool, true, false, cond, not, List, [], ◌∷◌, ◌++◌, length, refl, sym, ap, ◌∙◌, subst, arith, append_assoc, Option, Some, None, ◌⊎◌, inl, inr}
use Rattle.std.proofs.lemmas.Bool.{cases_order}
use Rattle.std.proofs.lemmas.Bool.Decides.{nat_tests}
use Rattle.std.specs.List.{AllByRecursion}
use Rattle.site_audit.specs.Order.{stands, blocked}
use Rattle.site_audit.specs.Tracks.{track_of, low_of, next_of, pair_with, spot_pairs, gate_pairs}
use Rattle.site_audit.specs.declared.order.Pair.{Pair}
use Rattle.site_audit.specs.declared.tracks.Last.{Last}
use Rattle.site_audit.specs.declared.tracks.Spot.{Spot}

-- Tests.

pub eq_is : (a b : ℕ) → nat_eq a b ≡ true → a ≡ b
eq_is a b e = grind (arith, nat_tests)

pub eq_not : (a b : ℕ) → nat_eq a b ≡ false → a ≢ b
eq_not a b e = λ h. let w : nat_eq a b ≡ true = grind (arith, nat_tests) in absurd cc

pub is_eq : (a b : ℕ) → a ≡ b → nat_eq a b ≡ true
is_eq a b e = grind (arith, nat_tests)

pub not_eq : (a b : ℕ) → a ≢ b → nat_eq a b ≡ false
not_eq a b h = by (nat_eq a b) refl
  where
    by : (t : Bool) → nat_eq a b ≡ t → t ≡ false
    by true e = absurd (h (eq_is a b e))
    by false e = refl

pub lt_is : (a b : ℕ) → nat_lt a b ≡ true → a < b
lt_is a b e = grind (arith, nat_tests)

pub lt_not : (a b : ℕ) → nat_lt a b ≡ false → b ≤ a
lt_not a b e = grind (arith, nat_tests)

pub is_lt : (a b : ℕ) → a < b → nat_lt a b ≡ true
is_lt a b e = grind (arith, nat_tests)

pub not_lt : (a b : ℕ) → b ≤ a → nat_lt a b ≡ false
not_lt a b e = grind (arith, nat_tests)

pub and_false : (a : Bool) → (a && false) ≡ false
and_false true = refl
and_false false = refl

pub and_true : (a : Bool) → (a && true) ≡ a
and_true true = refl
and_true false = refl

pub or_false : (a : Bool) → (a || false) ≡ a
or_false true = refl
or_false false = refl

pub or_not : (a b : Bool) → not (a || b) ≡ (not a && not b)
or_not true b = refl
or_not false b = refl

some_left : (n : ℕ) → (suc n == 0) ≡ false
some_left n = grind (arith, nat_tests)

-- Free ones.

module _ (D : List ℕ) where
  abbrev pub is_done : Option ℕ → Bool
  is_done None = true
  is_done (Some q) = stands D q

  abbrev pub lets : ℕ → ℕ → Bool → Bool
  lets behind k done = not (nat_eq behind k && not done)

  lets_else : (behind k : ℕ) (done : Bool) → behind ≢ k → lets behind k done ≡ true
  lets_else behind k done h = ap (λ t. not (t && not done)) (not_eq behind k h)

  lets_own : (behind k : ℕ) (done : Bool) → behind ≡ k → lets behind k done ≡ done
  lets_own behind k done h = ap (λ t. not (t && not done)) (is_eq behind k h) ∙ by done
    where
      by : (t : Bool) → not (not t) ≡ t
      by true = refl
      by false = refl

  free_none : (k : ℕ) → (blocked D [] k == 0) ≡ not (stands D k)
  free_none k = by (stands D k)
    where
      by : (t : Bool) → (cond {A = ℕ} t 1 0 == 0) ≡ not t
      by true = refl
      by false = refl

  free_one : (p : Pair) (ps : List Pair) (k : ℕ) → (blocked D (p ∷ ps) k == 0) ≡ (lets p.behind k (stands D p.before) && (blocked D ps k == 0))
  free_one p ps k = by (nat_eq p.behind k && not (stands D p.before))
    where
      by : (t : Bool) → (cond t (suc (blocked D ps k)) (blocked D ps k) == 0) ≡ (not t && (blocked D ps k == 0))
      by true = some_left (blocked D ps k)
      by false = refl

  free_with : (o : Option ℕ) (b : ℕ) (qs : List Pair) (k : ℕ) → (blocked D (pair_with o b ++ qs) k == 0) ≡ (lets b k (is_done o) && (blocked D qs k == 0))
  free_with None b qs k = by (nat_eq b k)
    where
      by : (t : Bool) → (blocked D qs k == 0) ≡ (not (t && false) && (blocked D qs k == 0))
      by true = refl
      by false = refl
  free_with (Some a) b qs k = free_one (record { before = a; behind = b }) qs k

  module _ (m : ℕ) where
    free_spot : (i : ℕ) (low next : Option ℕ) (x : Spot) (qs : List Pair) (k : ℕ)
        → (blocked D (spot_pairs (m + x.thing) i low next ++ qs) k == 0) ≡ (lets (m + x.thing) k (is_done low) && (lets i k (is_done next) && (lets i k (stands D (m + x.thing)) && (blocked D qs k == 0))))
    free_spot i low next x qs k =
        ap (λ ps. blocked D ps k == 0)
        (append_assoc (pair_with low (m + x.thing)) (pair_with next i ++ pair_with (Some (m + x.thing)) i) qs
        ∙ ap (λ ps. pair_with low (m + x.thing) ++ ps) (append_assoc (pair_with next i) (pair_with (Some (m + x.thing)) i) qs))
        ∙ (free_with low (m + x.thing) (pair_with next i ++ (pair_with (Some (m + x.thing)) i ++ qs)) k
        ∙ ap (λ t. lets (m + x.thing) k (is_done low) && t)
        (free_with next i (pair_with (Some (m + x.thing)) i ++ qs) k
        ∙ ap (λ t. lets i k (is_done next) && t) (free_with (Some (m + x.thing)) i qs k)))

    -- a thing waits for the gates before its spots
    abbrev pub lows : ℕ → ℕ → Option Last → List Spot → Bool
    lows k i last [] = not (stands D (m + k))
    lows k i last (x ∷ xs) = lets x.thing k (is_done (low_of last i x)) && lows k (suc i) (Some (record { spot = x; low = low_of last i x })) xs

    lets_thing : (j k : ℕ) (done : Bool) → lets (m + j) (m + k) done ≡ lets j k done
    lets_thing j k done = by (nat_eq j k) refl
      where
        by : (t : Bool) → nat_eq j k ≡ t → lets (m + j) (m + k) done ≡ not (t && not done)
        by true e = let h = eq_is j k e in lets_own (m + j) (m + k) done (ap (λ n. m + n) h) ∙ twice done
          where
            twice : (t : Bool) → t ≡ not (not t)
            twice true = refl
            twice false = refl
        by false e = let h = eq_not j k e in lets_else (m + j) (m + k) done (λ s. h (omega (arith, s)))

    pub free_thing : (k i : ℕ) (last : Option Last) (xs : List Spot) → i + length xs ≤ m → (blocked D (gate_pairs m i last xs) (m + k) == 0) ≡ lows k i last xs
    free_thing k i last [] l = free_none (m + k)
    free_thing k i last (x ∷ xs) l =
        let low = low_of last i x in
        let next = next_of last i x in
        let rest = free_thing k (suc i) (Some (record { spot = x; low = low })) xs (omega (arith, l)) in
        free_spot i low next x (gate_pairs m (suc i) (Some (record { spot = x; low = low })) xs) (m + k)
        ∙ (ap (λ t. lets (m + x.thing) (m + k) (is_done low) && (t && (lets i (m + k) (stands D (m + x.thing)) && (blocked D (gate_pairs m (suc i) (Some (record { spot = x; low = low })) xs) (m + k) == 0)))) (lets_else i (m + k) (is_done next) (λ e. absurd (omega (arith, e, l))))
        ∙ (ap (λ t. lets (m + x.thing) (m + k) (is_done low) && (t && (blocked D (gate_pairs m (suc i) (Some (record { spot = x; low = low })) xs) (m + k) == 0))) (lets_else i (m + k) (stands D (m + x.thing)) (λ e. absurd (omega (arith, e, l))))
        ∙ (ap (λ t. t && (blocked D (gate_pairs m (suc i) (Some (record { spot = x; low = low })) xs) (m + k) == 0)) (lets_thing x.thing k (is_done low)) ∙ ap (λ t. lets x.thing k (is_done low) && t) rest)))

    -- gates
    free_later : (j i : ℕ) (last : Option Last) (x : Spot) (xs : List Spot) → j ≢ i → j < m → (blocked D (gate_pairs m i last (x ∷ xs)) j == 0) ≡ (blocked D (gate_pairs m (suc i) (Some (record { spot = x; low = low_of last i x })) xs) j == 0)
    free_later j i last x xs h l =
        let low = low_of last i x in
        let next = next_of last i x in
        let qs = gate_pairs m (suc i) (Some (record { spot = x; low = low })) xs in
        free_spot i low next x qs j
        ∙ (ap (λ t. t && (lets i j (is_done next) && (lets i j (stands D (m + x.thing)) && (blocked D qs j == 0)))) (lets_else (m + x.thing) j (is_done low) (λ e. absurd (omega (arith, e, l))))
        ∙ (ap (λ t. t && (lets i j (stands D (m + x.thing)) && (blocked D qs j == 0))) (lets_else i j (is_done next) (λ e. h (sym e)))
        ∙ ap (λ t. t && (blocked D qs j == 0)) (lets_else i j (stands D (m + x.thing)) (λ e. h (sym e)))))

    free_past : (j i : ℕ) (last : Option Last) (xs : List Spot) → j < i → i + length xs ≤ m → (blocked D (gate_pairs m i last xs) j == 0) ≡ not (stands D j)
    free_past j i last [] l w = free_none j
    free_past j i last (x ∷ xs) l w =
        free_later j i last x xs (λ e. absurd (omega (arith, e, l))) (omega (arith, l, w)) ∙ free_past j (suc i) (Some (record { spot = x; low = low_of last i x })) xs (omega (arith, l)) (omega (arith, w))

    free_gate : (i : ℕ) (last : Option Last) (x : Spot) (xs : List Spot) → i + length (x ∷ xs) ≤ m → (blocked D (gate_pairs m i last (x ∷ xs)) i == 0) ≡ (is_done (next_of last i x) && (stands D (m + x.thing) && not (stands D i)))
    free_gate i last x xs w =
        let low = low_of last i x in
        let next = next_of last i x in
        let qs = gate_pairs m (suc i) (Some (record { spot = x; low = low })) xs in
        free_spot i low next x qs i
        ∙ (ap (λ t. t && (lets i i (is_done next) && (lets i i (stands D (m + x.thing)) && (blocked D qs i == 0)))) (lets_else (m + x.thing) i (is_done low) (λ e. absurd (omega (arith, e, w))))
        ∙ (ap (λ t. t && (lets i i (stands D (m + x.thing)) && (blocked D qs i == 0))) (lets_own i i (is_done next) refl)
        ∙ (ap (λ t. is_done next && (t && (blocked D qs i == 0))) (lets_own i i (stands D (m + x.thing)) refl)
        ∙ ap (λ t. is_done next && (stands D (m + x.thing) && t)) (free_past i (suc i) (Some (record { spot = x; low = low })) xs (omega arith) (omega (arith, w))))))

-- What is taken is closed: before each one that is taken all are taken that must stand before it.

abbrev pub AreClosed : List ℕ → List Pair → Type 0
AreClosed D ps = AllByRecursion (λ p. stands D p.behind ≡ true → stands D p.before ≡ true) ps

pub closed_first : (ps : List Pair) → AreClosed [] ps
closed_first [] = tt
closed_first (p ∷ ps) = ((λ e. absurd cc), closed_first ps)

pub stands_more : (done : List ℕ) (k i : ℕ) → stands (done ++ k ∷ []) i ≡ stands done i || nat_eq i k
stands_more [] k i = by (nat_eq i k)
  where
    by : (t : Bool) → t || false ≡ t
    by true = refl
    by false = refl
stands_more (d ∷ done) k i = by (nat_eq i d) (stands_more done k i)
  where
    by : (t : Bool) → stands (done ++ k ∷ []) i ≡ stands done i || nat_eq i k → t || stands (done ++ k ∷ []) i ≡ (t || stands done i) || nat_eq i k
    by true e = refl
    by false e = e

pub closed_more : (D : List ℕ) (ps : List Pair) (k : ℕ) → (blocked D ps k == 0) ≡ true → AreClosed D ps → AreClosed (D ++ k ∷ []) ps
closed_more D [] k free h = tt
closed_more D (p ∷ ps) k free h = by (lets D p.behind k (stands D p.before)) refl (blocked D ps k == 0) refl (sym (free_one D p ps k) ∙ free) (λ rest. closed_more D ps k rest h.1)
  where
    kept : stands D p.before ≡ true → stands (D ++ k ∷ []) p.before ≡ true
    kept e = stands_more D k p.before ∙ ap (λ t. t || nat_eq p.before k) e

    here : lets D p.behind k (stands D p.before) ≡ true → (s t : Bool) → stands D p.behind ≡ s → nat_eq p.behind k ≡ t → s || t ≡ true → stands D p.before ≡ true
    here own true t hs ht e = h.0 hs
    here own false true hs ht e = sym (lets_own D p.behind k (stands D p.before) (eq_is p.behind k ht)) ∙ own
    here own false false hs ht e = absurd cc

    by : (a : Bool) → lets D p.behind k (stands D p.before) ≡ a → (b : Bool) → (blocked D ps k == 0) ≡ b → (a && b) ≡ true → ((blocked D ps k == 0) ≡ true → AreClosed (D ++ k ∷ []) ps) → AreClosed (D ++ k ∷ []) (p ∷ ps)
    by true own true rest e more = ((λ st. kept (here own (stands D p.behind) (nat_eq p.behind k) refl refl (sym (stands_more D k p.behind) ∙ st))), more rest)
    by true own false rest e more = absurd cc
    by false own b rest e more = absurd cc

-- parts of what is closed
closed_with : (D : List ℕ) (o : Option ℕ) (b : ℕ) (qs : List Pair) → AreClosed D (pair_with o b ++ qs) → (stands D b ≡ true → is_done D o ≡ true) × AreClosed D qs
closed_with D None b qs h = ((λ e. refl), h)
closed_with D (Some a) b qs h = h

record IsSpotClosed (D : List ℕ) (m i : ℕ) (next : Option ℕ) (x : Spot) (qs : List Pair) : Type 0 where
  next_is : stands D i ≡ true → is_done D next ≡ true
  thing_is : stands D i ≡ true → stands D (m + x.thing) ≡ true
  rest : AreClosed D qs

spot_closed : (D : List ℕ) (m i : ℕ) (low next : Option ℕ) (x : Spot) (qs : List Pair) → AreClosed D (spot_pairs (m + x.thing) i low next ++ qs) → IsSpotClosed D m i next x qs
spot_closed D m i low next x qs h =
    let whole = append_assoc (pair_with low (m + x.thing)) (pair_with next i ++ pair_with (Some (m + x.thing)) i) qs
    ∙ ap (λ ps. pair_with low (m + x.thing) ++ ps) (append_assoc (pair_with next i) (pair_with (Some (m + x.thing)) i) qs) in
    let a = closed_with D low (m + x.thing) (pair_with next i ++ (pair_with (Some (m + x.thing)) i ++ qs)) (subst (AreClosed D) whole h) in
    let b = closed_with D next i (pair_with (Some (m + x.thing)) i ++ qs) a.1 in
    record { next_is = b.0; thing_is = b.1.0; rest = b.1.1 }

-- Where no gate is free, a gate is taken exactly where its thing and the gate before it on its track are.

abbrev pub HasNoGate : List ℕ → ℕ → ℕ → List Pair → Type 0
HasNoGate D m i ps = (j : ℕ) → i ≤ j → j < m → (blocked D ps j == 0) ≡ false

module _ (D : List ℕ) (m i : ℕ) (last : Option Last) (x : Spot) (xs : List Spot) (within : i + length (x ∷ xs) ≤ m) where
  abbrev pub after : Last
  after = record { spot = x; low = low_of last i x }

  abbrev later_pairs : List Pair
  later_pairs = gate_pairs m (suc i) (Some after) xs

  pub settled : AreClosed D (gate_pairs m i last (x ∷ xs)) → HasNoGate D m i (gate_pairs m i last (x ∷ xs)) → stands D i ≡ (is_done D (next_of last i x) && stands D (m + x.thing))
  settled closed none =
      by (stands D i) refl (is_done D (next_of last i x)) refl (stands D (m + x.thing)) refl (sym (free_gate D m i last x xs within) ∙ none i (omega arith) (omega (arith, within)))
    where
      c : IsSpotClosed D m i (next_of last i x) x later_pairs
      c = spot_closed D m i (low_of last i x) (next_of last i x) x later_pairs closed

      by : (s : Bool) → stands D i ≡ s → (n : Bool) → is_done D (next_of last i x) ≡ n → (t : Bool) → stands D (m + x.thing) ≡ t → (n && (t && not s)) ≡ false → s ≡ (n && t)
      by true hs true hn true ht e = refl
      by true hs true hn false ht e = sym (sym ht ∙ c.thing_is hs)
      by true hs false hn t ht e = sym (sym hn ∙ c.next_is hs)
      by false hs true hn true ht e = sym e
      by false hs true hn false ht e = refl
      by false hs false hn t ht e = refl

  pub closed_later : AreClosed D (gate_pairs m i last (x ∷ xs)) → AreClosed D later_pairs
  closed_later closed = (spot_closed D m i (low_of last i x) (next_of last i x) x later_pairs closed).rest

  pub none_later : HasNoGate D m i (gate_pairs m i last (x ∷ xs)) → HasNoGate D m (suc i) later_pairs
  none_later none j l w = sym (free_later D m j i last x xs (λ e. absurd (omega (arith, e, l))) w) ∙ none j (omega (arith, l)) w

-- Where all things are taken, all gates are.

pub IsTakenBefore : List ℕ → ℕ → Type 0
IsTakenBefore D zero = Unit {0}
IsTakenBefore D (suc g) = stands D g ≡ true

next_taken : (D : List ℕ) (i : ℕ) (last : Option Last) (x : Spot) → IsTakenBefore D i → is_done D (next_of last i x) ≡ true
unfolding IsTakenBefore
next_taken D zero None x h = refl
next_taken D zero (Some l) x h = refl
next_taken D (suc g) None x h = refl
next_taken D (suc g) (Some l) x h = by (nat_eq (track_of l.spot) (track_of x))
  where
    by : (t : Bool) → is_done D (cond t (Some g) None) ≡ true
    by true = h
    by false = refl

pub taken_at_first : (D : List ℕ) → IsTakenBefore D 0
unfolding IsTakenBefore
taken_at_first D = tt

pub gates_from : (D : List ℕ) (m i : ℕ) (last : Option Last) (xs : List Spot) → i + length xs ≤ m → AreClosed D (gate_pairs m i last xs) → HasNoGate D m i (gate_pairs m i last xs) → IsTakenBefore D i
    → AllByRecursion (λ x. stands D (m + x.thing) ≡ true) xs → (j : ℕ) → i ≤ j → j < i + length xs → stands D j ≡ true
unfolding IsTakenBefore
gates_from D m i last [] within closed none before all j l w = absurd (omega (arith, l, w))
gates_from D m i last (x ∷ xs) within closed none before all j l w =
    by (cases_order i j) (λ g. gates_from D m (suc i) (Some (after D m i last x xs within)) xs (omega (arith, within)) (closed_later D m i last x xs within closed) (none_later D m i last x xs within none) own all.1 j (omega (arith, g)) (omega (arith, w)))
  where
    own : stands D i ≡ true
    own = settled D m i last x xs within closed none ∙ (ap (λ t. t && stands D (m + x.thing)) (next_taken D i last x before) ∙ all.0)

    by : (i ≡ j) ⊎ ((i < j) ⊎ (j < i)) → (i < j → stands D j ≡ true) → stands D j ≡ true
    by (inl e) more = subst (λ n. stands D n ≡ true) e own
    by (inr (inl g)) more = more g
    by (inr (inr g)) more = absurd (omega (arith, g, l))

-- one that stands isn't free
pub free_is_left : (done : List ℕ) (ps : List Pair) (k : ℕ) → blocked done ps k ≡ 0 → stands done k ≡ false
free_is_left done [] k e = by (stands done k) e
  where
    by : (t : Bool) → cond {A = ℕ} t 1 0 ≡ 0 → t ≡ false
    by true e = absurd (omega (arith, e))
    by false e = refl
free_is_left done (p ∷ ps) k e = by (nat_eq p.behind k && not (stands done p.before)) e (free_is_left done ps k)
  where
    by : (t : Bool) → cond t (suc (blocked done ps k)) (blocked done ps k) ≡ 0 → (blocked done ps k ≡ 0 → stands done k ≡ false) → stands done k ≡ false
    by true e ih = absurd (omega (arith, e))
    by false e ih = ih e
