-- Callers by their numbers, and sums over the views.
use Rattle.std.proofs.Common.{rules, ◌≡◌, ◌≢◌, ℕ, zero, suc, ◌+◌, ◌-◌, ◌<◌, ◌≤◌, List, [], ◌∷◌, ◌++◌, length, set, refl, sym, ap, ◌∙◌, arith, Bool, true, false, cond, ltb, eqb, eq-eqb, ne_eqb}
use mathlib.Core.Option.{some, some-injective, some-ne-none}
use native.Mathlib.Decide.{ℕ_discrete}
use lib.ListN.{get_elem?}
use Rattle.post_turn.specs.declared.pass.Caller.{Caller}
use Rattle.post_turn.specs.declared.pass.View.{View}
use Rattle.post_turn.specs.Turns.{caller, newcomers, times, Each, total}

one_at_most : (b : Bool) → cond {A = ℕ} b 1 0 ≤ 1
one_at_most true = omega arith
one_at_most false = omega arith

module _ {M S E : Type 0} where
  -- Sums over the views ------------------------------------------------------------------------------------------------

  pub total_set : (f : View M S E → ℕ) (views : List (View M S E)) (i : ℕ) (v w : View M S E) → get_elem? views i ≡ some v → total f (set views i w) + f v ≡ total f views + f w
  total_set f [] i v w e = absurd (some-ne-none v (sym e))
  total_set f (x ∷ xs) zero v w e = let h = ap f (some-injective x v e) in omega arith
  total_set f (x ∷ xs) (suc i) v w e = let h = total_set f xs i v w e in omega arith

  pub total_snoc : (f : View M S E → ℕ) (views : List (View M S E)) (v : View M S E) → total f (views ++ v ∷ []) ≡ total f views + f v
  total_snoc f [] v = omega arith
  total_snoc f (x ∷ xs) v = let h = total_snoc f xs v in omega arith

  pub total_at : (f : View M S E → ℕ) (views : List (View M S E)) (i : ℕ) (v : View M S E) → get_elem? views i ≡ some v → f v ≤ total f views
  total_at f [] i v e = absurd (some-ne-none v (sym e))
  total_at f (x ∷ xs) zero v e = let h = ap f (some-injective x v e) in omega arith
  total_at f (x ∷ xs) (suc i) v e = let h = total_at f xs i v e in omega arith

  pub total_two : (f : View M S E → ℕ) (views : List (View M S E)) (i j : ℕ) (v w : View M S E) → i ≢ j → get_elem? views i ≡ some v → get_elem? views j ≡ some w → f v + f w ≤ total f views
  total_two f [] i j v w n e g = absurd (some-ne-none v (sym e))
  total_two f (x ∷ xs) zero zero v w n e g = absurd (n refl)
  total_two f (x ∷ xs) zero (suc j) v w n e g = let h = ap f (some-injective x v e) in let k = total_at f xs j w g in omega arith
  total_two f (x ∷ xs) (suc i) zero v w n e g = let h = ap f (some-injective x w g) in let k = total_at f xs i v e in omega arith
  total_two f (x ∷ xs) (suc i) (suc j) v w n e g = let h = total_two f xs i j v w (λ p. n (ap suc p)) e g in omega arith

  pub total_least : (f g : View M S E → ℕ) (views : List (View M S E)) → ((i : ℕ) (v : View M S E) → get_elem? views i ≡ some v → f v ≤ g v) → total f views ≤ total g views
  total_least f g [] h = omega arith
  total_least f g (x ∷ xs) h = let a = h 0 x refl in let b = total_least f g xs (λ i v e. h (suc i) v e) in omega arith

  -- Callers by their numbers -------------------------------------------------------------------------------------------

  abbrev pub first_or : Caller M S E → List (Caller M S E) → Caller M S E
  first_or d [] = d
  first_or d (c ∷ cs) = c

  pub times_once : (c : Caller M S E) → times c.number (c ∷ []) ≡ 1
  times_once c = ap (λ b. cond {A = ℕ} b 1 0 + 0) (eq-eqb c.number c.number refl)

  pub times_append : (k : ℕ) (cs ds : List (Caller M S E)) → times k (cs ++ ds) ≡ times k cs + times k ds
  times_append k [] ds = omega arith
  times_append k (c ∷ cs) ds = let h = times_append k cs ds in omega arith

  pub each_append : (P : Caller M S E → Type 0) (cs ds : List (Caller M S E)) → Each P cs → Each P ds → Each P (cs ++ ds)
  each_append P [] ds a b = b
  each_append P (c ∷ cs) ds a b = (a.0, each_append P cs ds a.1 b)

  -- what holds of callers of other numbers than k
  pub each_but : (P Q : Caller M S E → Type 0) (k : ℕ) (cs : List (Caller M S E)) → times k cs ≡ 0 → ((c : Caller M S E) → c.number ≢ k → P c → Q c) → Each P cs → Each Q cs
  each_but P Q k [] e f a = tt
  each_but P Q k (c ∷ cs) e f a = (f c other a.0, each_but P Q k cs (let e' : cond {A = ℕ} (eqb c.number k) 1 0 + times k cs ≡ 0 = e in omega arith) f a.1)
    where
      other : c.number ≢ k
      other same = let e' : cond {A = ℕ} (eqb c.number k) 1 0 + times k cs ≡ 0 = e in let h : cond {A = ℕ} (eqb c.number k) 1 0 ≡ 1 = ap (λ b. cond {A = ℕ} b 1 0) (eq-eqb c.number k same) in omega (arith, e', h)

-- The callers of a new post ------------------------------------------------------------------------------------------

module _ {M S : Type 0} (E : Type 0) (m : M) (s : S) where
  -- the first of them, and those behind it
  abbrev adds : (k j n a b : ℕ) → cond {A = ℕ} (eqb j k) 1 0 ≡ a → times k (newcomers {E = E} m s (suc j) n) ≡ b → times k (newcomers {E = E} m s j (suc n)) ≡ a + b
  adds k j n a b e f = λ i. e i + f i

  is_not : (j k : ℕ) → j ≢ k → cond {A = ℕ} (eqb j k) 1 0 ≡ 0
  is_not j k h = ap (λ b. cond {A = ℕ} b 1 0) (ne_eqb j k h)

  times_below : (k j n : ℕ) → k < j → times k (newcomers {E = E} m s j n) ≡ 0
  times_below k j zero h = refl
  times_below k j (suc n) h = adds k j n 0 0 (is_not j k (λ e. omega arith)) (times_below k (suc j) n (omega arith))

  times_past : (k j n : ℕ) → j + n ≤ k → times k (newcomers {E = E} m s j n) ≡ 0
  times_past k j zero h = refl
  times_past k j (suc n) h = adds k j n 0 0 (is_not j k (λ e. omega arith)) (times_past k (suc j) n (omega arith))

  times_among : (k j n : ℕ) → j ≤ k → k < j + n → times k (newcomers {E = E} m s j n) ≡ 1
  times_among k j zero low high = absurd (omega arith)
  times_among k j (suc n) low high = by (λ else. times_among k (suc j) n (let e = else in omega arith) (omega arith)) (ℕ_discrete j k)
    where
      by : (j ≢ k → times k (newcomers {E = E} m s (suc j) n) ≡ 1) → Dec (j ≡ k) → times k (newcomers {E = E} m s j (suc n)) ≡ 1
      by later (yes same) = adds k j n 1 0 (ap (λ b. cond {A = ℕ} b 1 0) (eq-eqb j k same)) (times_below k (suc j) n (omega arith))
      by later (no else) = adds k j n 0 1 (is_not j k else) (later else)

  pub newcomers_once : (k n : ℕ) → times k (newcomers {E = E} m s 0 n) ≡ cond (ltb k n) 1 0
  newcomers_once k n = by (ltb k n) refl
    where
      by : (b : Bool) → ltb k n ≡ b → times k (newcomers {E = E} m s 0 n) ≡ cond {A = ℕ} b 1 0
      by true e = times_among k 0 n (omega arith) (search rules)
      by false e = times_past k 0 n (search rules)

  pub newcomers_length : (j n : ℕ) → length (newcomers {E = E} m s j n) ≡ n
  newcomers_length j zero = refl
  newcomers_length j (suc n) = ap suc (newcomers_length (suc j) n)

  pub one_more : (k n : ℕ) → k < n → newcomers {E = E} m s k (n - k) ≡ caller m s k [] [] ∷ newcomers m s (k + 1) (n - (k + 1))
  one_more k n h = let less : n - k ≡ suc (n - (k + 1)) = omega arith in let next : suc k ≡ k + 1 = omega arith in ap (newcomers m s k) less ∙ ap (λ j. caller m s k [] [] ∷ newcomers m s j (n - (k + 1))) next
