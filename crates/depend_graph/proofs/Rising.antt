-- Rising lists of numbers.
use Rattle.std.proofs.Common.{◌≡◌, ◌<◌, ◌≤◌, ◌||◌, ℕ, zero, suc, List, [], ◌∷◌, length, get_or, nat_eq, ◌⊎◌, inl, inr, Bool, true, false, All, AllPairs, refl, sym, ap, ◌∙◌, subst, arith, eqb-true}
use Rattle.std.proofs.lemmas.Bool.{cases_eq, or_cases, or_left}
use Rattle.std.proofs.lemmas.List.Elements.{All-cons}
use Rattle.std.proofs.lemmas.List.Kept.{AllPairs-cons}
use Rattle.site_model.specs.Sound.{AreDistinct}
use Rattle.run_meaning.specs.Turns.{from_on}
use Rattle.depend_graph.specs.Parents.{has}
use Rattle.depend_graph.proofs.Has.{eq_apart, eq_self, false_from, place_of}

range_above : (first n m : ℕ) → first < n → All (λ k. first < k) (from_on n m)
range_above first n zero h = λ k d l. absurd (omega (arith, l))
range_above first n (suc m) h = All-cons (λ k. first < k) n (from_on (suc n) m) h (range_above first (suc n) m (omega (arith, h)))

pub range_rises : (first many : ℕ) → AllPairs (λ j k. j < k) (from_on first many)
range_rises first zero = λ i j d l h. absurd (omega (arith, h))
range_rises first (suc many) = AllPairs-cons (λ j k. j < k) first (from_on (suc first) many) (range_above first (suc first) many (omega arith)) (range_rises (suc first) many)

pub rising_distinct : (xs : List ℕ) → AllPairs (λ j k. j < k) xs → AreDistinct xs
rising_distinct xs h = λ i j d l k e. let q = h i j d l k in omega (arith, e, q)

-- Two that have the same numbers are one.

smallest : (x : ℕ) (xs : List ℕ) → AllPairs (λ j k. j < k) (x ∷ xs) → (p : ℕ) → has p (x ∷ xs) ≡ true → x ≤ p
smallest x xs up p h = by (or_cases (nat_eq p x) (has p xs) h)
  where
    by : (nat_eq p x ≡ true) ⊎ (has p xs ≡ true) → x ≤ p
    by (inl e) = let q = eqb-true p x e in omega (arith, q)
    by (inr e) =
        let place = place_of p xs e in
        let l = place.1 in
        let at = place.2 p in
        let u = up 0 (suc place.0) p (omega arith) (omega (arith, l)) in
        omega (arith, u, at)

not_behind : (x : ℕ) (xs : List ℕ) → AllPairs (λ j k. j < k) (x ∷ xs) → has x xs ≡ false
not_behind x xs up = false_from (has x xs) (λ q.
    let place = place_of x xs q in
    let l = place.1 in
    let at = place.2 x in
    let u = up 0 (suc place.0) x (omega arith) (omega (arith, l)) in
    omega (arith, u, at))

rest_rises : (x : ℕ) (xs : List ℕ) → AllPairs (λ j k. j < k) (x ∷ xs) → AllPairs (λ j k. j < k) xs
rest_rises x xs up = λ i j d l k. up (suc i) (suc j) d (omega (arith, l)) (omega (arith, k))

pub rising_same : (xs ys : List ℕ) → AllPairs (λ j k. j < k) xs → AllPairs (λ j k. j < k) ys → ((p : ℕ) → has p xs ≡ has p ys) → xs ≡ ys
rising_same [] [] up vp same = refl
rising_same [] (y ∷ ys) up vp same = let e : false ≡ true = same y ∙ or_left (nat_eq y y) (has y ys) (eq_self y) in absurd cc
rising_same (x ∷ xs) [] up vp same = let e : false ≡ true = sym (same x) ∙ or_left (nat_eq x x) (has x xs) (eq_self x) in absurd cc
rising_same (x ∷ xs) (y ∷ ys) up vp same =
    ap (λ h. h ∷ xs) first ∙ ap (λ t. y ∷ t) (rising_same xs ys (rest_rises x xs up) (rest_rises y ys vp) (λ p. rest p (cases_eq p x)))
  where
    first : x ≡ y
    first =
        let a = smallest y ys vp x (sym (same x) ∙ or_left (nat_eq x x) (has x xs) (eq_self x)) in
        let b = smallest x xs up y (same y ∙ or_left (nat_eq y y) (has y ys) (eq_self y)) in
        omega (arith, a, b)

    rest : (p : ℕ) → (p ≡ x) ⊎ (p ≡ x → ⊥) → has p xs ≡ has p ys
    rest p (inl e) =
        ap (λ z. has z xs) e ∙ not_behind x xs up ∙ sym (ap (λ z. has z ys) (e ∙ first) ∙ not_behind y ys vp)
    rest p (inr ne) =
        ap (λ b. b || has p xs) (sym (eq_apart p x ne)) ∙ same p ∙ ap (λ b. b || has p ys) (eq_apart p y (λ e. ne (e ∙ sym first)))
