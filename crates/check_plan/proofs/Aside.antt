-- Those that were passed over stand aside.
use Rattle.std.proofs.Common.{◌≡◌, ◌||◌, ℕ, zero, suc, List, [], ◌∷◌, ◌++◌, set, slice_get, nat_eq, Bool, true, false, Some, refl, sym, ap, ◌∙◌, subst, eqb-true, eq-eqb}
use Rattle.std.proofs.lemmas.List.Folds.{list_any-append}
use Rattle.depend_graph.specs.Parents.{has}
use Rattle.run_meaning.specs.Schedule.{Watch, is_waiting}
use Rattle.run_meaning.specs.Turns.{Outstanding}
use Rattle.run_meaning.proofs.Lists.{one_at}
use Rattle.check_plan.specs.Plans.{TellWaiting, slots_in}
use Rattle.check_plan.specs.Walks.{AreAside}
use Rattle.check_plan.proofs.Given.{differs, either_false, left_false, none_waits, right_false, unequal, waits_more}
use Rattle.check_plan.proofs.Walking.{aside, set_here, set_there}

pub none_aside : (ws : List Watch) (os : List Outstanding) → TellWaiting ws os → AreAside ws os []
none_aside ws os tell = record { tell = λ i w at h. tell i w at; wait = λ i w at h. absurd cc; free = λ i h. absurd cc }

or_true : (b : Bool) → (b || (true || false)) ≡ true
or_true true = refl
or_true false = refl

or_false : (b : Bool) → (b || (false || false)) ≡ b
or_false true = refl
or_false false = refl

either : (a b : Bool) → (a || b) ≡ true → a ≡ false → b ≡ true
either true b h f = absurd cc
either false b h f = h

only_left : (b : Bool) → (b || false) ≡ true → b ≡ true
only_left true h = refl
only_left false h = h

module _ (ws : List Watch) (os : List Outstanding) (passed : List ℕ) (are : AreAside ws os passed) (k : ℕ) (w : Watch) (at : slice_get ws k ≡ Some w) (free : w.waiting ≡ false) where
  pub not_passed : has k passed ≡ false
  not_passed = by (has k passed) refl
    where
      by : (t : Bool) → has k passed ≡ t → t ≡ false
      by false q = refl
      by true q = let e : false ≡ true = sym free ∙ are.wait k w at q in absurd cc

  pub no_order : is_waiting os k ≡ false
  no_order = sym (are.tell k w at not_passed) ∙ free

  -- what is set at the place, and what stays at another
  abbrev changed : ℕ → List Watch
  changed next = set ws k (aside next)

  set_waits : (next i : ℕ) (v : Watch) → nat_eq k i ≡ true → slice_get (changed next) i ≡ Some v → v.waiting ≡ true
  set_waits next i v q there =
      let same = eqb-true k i q in
      let is : slice_get (changed next) i ≡ Some (aside next) = subst (λ n. slice_get (changed next) n ≡ Some (aside next)) same (set_here ws k w (aside next) at) in
      ap (λ (x : Watch). x.waiting) (one_at (changed next) i v (aside next) there is)

  other : (next i : ℕ) (v : Watch) → nat_eq k i ≡ false → slice_get (changed next) i ≡ Some v → slice_get ws i ≡ Some v
  other next i v q there = sym (set_there ws k i (aside next) (differs k i q)) ∙ there

  pub given_aside : (next n : ℕ) → AreAside (changed next) (os ++ record { order = n; checkable = k } ∷ []) passed
  given_aside next n = record {
    tell = λ i v there h. telling i v there h (nat_eq k i) refl;
    wait = λ i v there h. waiting i v there h (nat_eq k i) refl;
    free = λ i h. none_waits os n k i (are.free i h) (apart_of i h (nat_eq k i) refl);
  }
    where
      telling : (i : ℕ) (v : Watch) → slice_get (changed next) i ≡ Some v → has i passed ≡ false → (t : Bool) → nat_eq k i ≡ t → v.waiting ≡ is_waiting (os ++ record { order = n; checkable = k } ∷ []) i
      telling i v there h true q = set_waits next i v q there ∙ sym (waits_more os n k i ∙ ap (λ t. is_waiting os i || (t || false)) q ∙ or_true (is_waiting os i))
      telling i v there h false q = are.tell i v (other next i v q there) h ∙ sym (waits_more os n k i ∙ ap (λ t. is_waiting os i || (t || false)) q ∙ or_false (is_waiting os i))

      waiting : (i : ℕ) (v : Watch) → slice_get (changed next) i ≡ Some v → has i passed ≡ true → (t : Bool) → nat_eq k i ≡ t → v.waiting ≡ true
      waiting i v there h true q = set_waits next i v q there
      waiting i v there h false q = are.wait i v (other next i v q there) h

      apart_of : (i : ℕ) → has i passed ≡ true → (t : Bool) → nat_eq k i ≡ t → t ≡ false
      apart_of i h false q = refl
      apart_of i h true q = let e : true ≡ false = sym h ∙ ap (λ z. has z passed) (sym (eqb-true k i q)) ∙ not_passed in e

  has_more : (i : ℕ) → has i (passed ++ k ∷ []) ≡ (has i passed || (nat_eq i k || false))
  has_more i = list_any-append (nat_eq i) passed (k ∷ [])

  pub passed_aside : (next : ℕ) → AreAside (changed next) os (passed ++ k ∷ [])
  passed_aside next = record {
    tell = λ i v there h.
        let none : (has i passed || (nat_eq i k || false)) ≡ false = sym (has_more i) ∙ h in
        let q = left_false (nat_eq i k) false (right_false (has i passed) (nat_eq i k || false) none) in
        are.tell i v (other next i v (unequal i k q) there) (left_false (has i passed) (nat_eq i k || false) none);
    wait = λ i v there h. waiting i v there h (nat_eq k i) refl;
    free = λ i h. freed i h (has i passed) refl;
  }
    where
      waiting : (i : ℕ) (v : Watch) → slice_get (changed next) i ≡ Some v → has i (passed ++ k ∷ []) ≡ true → (t : Bool) → nat_eq k i ≡ t → v.waiting ≡ true
      waiting i v there h true q = set_waits next i v q there
      waiting i v there h false q =
          let some : (has i passed || (nat_eq i k || false)) ≡ true = sym (has_more i) ∙ h in
          are.wait i v (other next i v q there)
          (let e : (has i passed || (false || false)) ≡ true = ap (λ t. has i passed || (t || false)) (sym (unequal k i q)) ∙ some in sym (or_false (has i passed)) ∙ e)

      freed : (i : ℕ) → has i (passed ++ k ∷ []) ≡ true → (t : Bool) → has i passed ≡ t → is_waiting os i ≡ false
      freed i h true q = are.free i q
      freed i h false q =
          let some : (has i passed || (nat_eq i k || false)) ≡ true = sym (has_more i) ∙ h in
          let same = eqb-true i k (only_left (nat_eq i k) (either (has i passed) (nat_eq i k || false) some q)) in
          ap (is_waiting os) same ∙ no_order

-- Put back.

-- the first of those that stand aside is due again
pub one_back : (ws : List Watch) (os : List Outstanding) (k : ℕ) (rest : List ℕ) (w v : Watch) → slice_get ws k ≡ Some w → v.waiting ≡ false
    → ((i : ℕ) (w : Watch) → slice_get ws i ≡ Some w → has i (k ∷ rest) ≡ false → w.waiting ≡ is_waiting os i) → is_waiting os k ≡ false
    → (i : ℕ) (x : Watch) → slice_get (set ws k v) i ≡ Some x → has i rest ≡ false → x.waiting ≡ is_waiting os i
one_back ws os k rest w v at free tell none i x there h = by (nat_eq k i) refl
  where
    by : (t : Bool) → nat_eq k i ≡ t → x.waiting ≡ is_waiting os i
    by true q =
        let same = eqb-true k i q in
        let is : slice_get (set ws k v) i ≡ Some v = subst (λ n. slice_get (set ws k v) n ≡ Some v) same (set_here ws k w v at) in
        ap (λ (y : Watch). y.waiting) (one_at (set ws k v) i x v there is) ∙ free ∙ sym none ∙ ap (is_waiting os) same
    by false q = tell i x (sym (set_there ws k i v (differs k i q)) ∙ there) (either_false (nat_eq i k) (has i rest) (unequal k i q) h)

-- a watch that is put back keeps its slot
pub slots_back : (ws : List Watch) (k : ℕ) (w v : Watch) → slice_get ws k ≡ Some w → v.slot ≡ w.slot → slots_in (set ws k v) ≡ slots_in ws
slots_back [] k w v at is = refl
slots_back (x ∷ ws) zero w v at is = let same : x ≡ w = cc in ap (λ s. s ∷ slots_in ws) (is ∙ ap (λ (y : Watch). y.slot) (sym same))
slots_back (x ∷ ws) (suc k) w v at is = ap (λ ss. x.slot ∷ ss) (slots_back ws k w v at is)

-- each of those that were passed over is among them
pub is_among : (passed : List ℕ) (i k : ℕ) → slice_get passed i ≡ Some k → has k passed ≡ true
is_among [] i k h = absurd cc
is_among (p ∷ passed) zero k h = let same : p ≡ k = cc in ap (λ t. t || has k passed) (eq-eqb k p (sym same))
is_among (p ∷ passed) (suc i) k h = ap (λ t. nat_eq k p || t) (is_among passed i k h) ∙ always (nat_eq k p)
  where
    always : (b : Bool) → (b || true) ≡ true
    always true = refl
    always false = refl
