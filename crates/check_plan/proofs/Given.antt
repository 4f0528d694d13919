-- One order more is outstanding.
use Rattle.std.proofs.Common.{◌≡◌, ◌≢◌, ◌<◌, ◌||◌, ℕ, zero, suc, ◌+◌, List, [], ◌∷◌, ◌++◌, slice_get, nat_eq, cond, Bool, true, false, Some, None, refl, sym, ap, ◌∙◌, arith, subst, eq-eqb, eqb-true}
use Rattle.std.proofs.lemmas.List.Folds.{list_any-append}
use Rattle.run_meaning.specs.Dealing.{checkable_of}
use Rattle.run_meaning.specs.Schedule.{is_waiting}
use Rattle.run_meaning.specs.Turns.{Outstanding}
use Rattle.check_plan.specs.Plans.{AreApart, AreGiven}

-- Tests.

pub differs : (j k : ℕ) → nat_eq j k ≡ false → j ≢ k
differs j k h e = let f : true ≡ false = sym (eq-eqb j k e) ∙ h in absurd cc

pub unequal : (a b : ℕ) → nat_eq a b ≡ false → nat_eq b a ≡ false
unequal a b h = by (nat_eq b a) refl
  where
    by : (t : Bool) → nat_eq b a ≡ t → t ≡ false
    by true q = let e : true ≡ false = sym (eq-eqb a b (sym (eqb-true b a q))) ∙ h in e
    by false q = refl

pub left_false : (a b : Bool) → (a || b) ≡ false → a ≡ false
left_false true b h = h
left_false false b h = refl

pub right_false : (a b : Bool) → (a || b) ≡ false → b ≡ false
right_false true b h = absurd cc
right_false false b h = h

pub either_false : (a b : Bool) → a ≡ false → b ≡ false → (a || b) ≡ false
either_false true b h k = h
either_false false b h k = k

abbrev one : ℕ → ℕ → Outstanding
one n j = record { order = n; checkable = j }

-- One more.

-- an order of checkable j is outstanding too
pub waits_more : (os : List Outstanding) (n j k : ℕ) → is_waiting (os ++ one n j ∷ []) k ≡ (is_waiting os k || (nat_eq j k || false))
waits_more os n j k = list_any-append (λ (o : Outstanding). nat_eq o.checkable k) os (one n j ∷ [])

pub none_waits : (os : List Outstanding) (n j k : ℕ) → is_waiting os k ≡ false → nat_eq j k ≡ false → is_waiting (os ++ one n j ∷ []) k ≡ false
none_waits os n j k h q = waits_more os n j k ∙ either_false (is_waiting os k) (nat_eq j k || false) h (either_false (nat_eq j k) false q refl)

none_more : (os : List Outstanding) (n j p : ℕ) → checkable_of p os ≡ None → nat_eq n p ≡ false → checkable_of p (os ++ one n j ∷ []) ≡ None
none_more [] n j p h q = ap (λ t. cond t (Some j) None) q
none_more (x ∷ os) n j p h q = by (nat_eq x.order p) h (λ h. none_more os n j p h q)
  where
    by : (t : Bool) → cond t (Some x.checkable) (checkable_of p os) ≡ None → (checkable_of p os ≡ None → checkable_of p (os ++ one n j ∷ []) ≡ None) → cond t (Some x.checkable) (checkable_of p (os ++ one n j ∷ [])) ≡ None
    by true h f = absurd cc
    by false h f = f h

not_there : (x : Outstanding) (os : List Outstanding) (n : ℕ) → checkable_of n (x ∷ os) ≡ None → (nat_eq x.order n ≡ false) × (checkable_of n os ≡ None)
not_there x os n h = by (nat_eq x.order n) h
  where
    by : (t : Bool) → cond t (Some x.checkable) (checkable_of n os) ≡ None → (t ≡ false) × (checkable_of n os ≡ None)
    by true h = absurd cc
    by false h = (refl, h)

apart_more : (os : List Outstanding) (n j : ℕ) → AreApart os → is_waiting os j ≡ false → checkable_of n os ≡ None → AreApart (os ++ one n j ∷ [])
apart_more [] n j apart waits new = (refl, refl, tt)
apart_more (x ∷ os) n j apart waits new =
    let (other, gone) = not_there x os n new in (
      none_waits os n j x.checkable apart.0 (unequal x.checkable j (left_false (nat_eq x.checkable j) (is_waiting os j) waits)),
      none_more os n j x.order apart.1 (unequal x.order n other),
      apart_more os n j apart.2 (right_false (nat_eq x.checkable j) (is_waiting os j) waits) gone,
    )

later : (g n : ℕ) → g + 1 < n → nat_eq (g + 1) n ≡ false
later g n h = by (nat_eq (g + 1) n) refl
  where
    by : (t : Bool) → nat_eq (g + 1) n ≡ t → t ≡ false
    by true q = let e = eqb-true (g + 1) n q in absurd (omega (arith, e, h))
    by false q = refl

within_more : (count n j : ℕ) (os : List Outstanding) → ((i : ℕ) (o : Outstanding) → slice_get os i ≡ Some o → o.checkable < count) → j < count → (i : ℕ) (o : Outstanding) → slice_get (os ++ one n j ∷ []) i ≡ Some o → o.checkable < count
within_more count n j [] all l zero o at = let e : one n j ≡ o = cc in subst (λ (x : Outstanding). x.checkable < count) e l
within_more count n j [] all l (suc i) o at = absurd cc
within_more count n j (x ∷ os) all l zero o at = all zero o at
within_more count n j (x ∷ os) all l (suc i) o at = within_more count n j os (λ i. all (suc i)) l i o at

-- the next number is given, to a checkable of which no order is outstanding
pub given_more : (count given j : ℕ) (os : List Outstanding) → AreGiven count given os → is_waiting os j ≡ false → j < count → AreGiven count (given + 1) (os ++ one (given + 1) j ∷ [])
given_more count given j os are waits l = record {
  apart = apart_more os (given + 1) j are.apart waits (are.none_later (given + 1) (omega arith));
  none_later = λ n h. none_more os (given + 1) j n (are.none_later n (omega (arith, h))) (later given n h);
  within = within_more count (given + 1) j os are.within l;
}
