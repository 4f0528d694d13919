-- Lists in which one element stands that passes a test.
use Rattle.std.proofs.Common.{◌≡◌, ◌≢◌, ◌<◌, ◌≤◌, ◌+◌, ◌||◌, ℕ, zero, suc, Bool, true, false, cond, List, [], ◌∷◌, ◌++◌, length, map, get_or, set, take, drop, slice_get, Option, Some, None, IsSomeAnd, MatchOption, refl, sym, ap, ◌∙◌, arith, subst}
use Rattle.std.specs.List.{list_any, position_from}
use Rattle.site_model.specs.Sound.{AreDistinct}
use Rattle.notify_rules.specs.Sent.{IsAt}

module _ {X : Type 0} (test : X → Bool) where
  -- the first that passes, counted from i on
  abbrev IsFrom : ℕ → List X → Option ℕ → Type 0
  IsFrom i xs place = MatchOption place (list_any test xs ≡ false) (λ k. (j : ℕ) × (k ≡ i + j) × IsSomeAnd (slice_get xs j) (λ x. test x ≡ true))

  one_further : (i : ℕ) (x : X) (xs : List X) (place : Option ℕ) → test x ≡ false → IsFrom (i + 1) xs place → IsFrom i (x ∷ xs) place
  one_further i x xs None fails h = ap (λ b. b || list_any test xs) fails ∙ h
  one_further i x xs (Some k) fails h = (suc h.0, omega (arith, h.1), h.2)

  is_from : (i : ℕ) (xs : List X) → IsFrom i xs (position_from test i xs)
  is_from i [] = refl
  is_from i (x ∷ xs) =
      let by : (b : Bool) → test x ≡ b → IsFrom i (x ∷ xs) (cond b (Some i) (position_from test (i + 1) xs)) =
      λ b. elim b as (λ b. test x ≡ b → IsFrom i (x ∷ xs) (cond b (Some i) (position_from test (i + 1) xs))) [
        | true ↦ λ e. (zero, omega arith, e)
        | false ↦ λ e. one_further i x xs (position_from test (i + 1) xs) e (is_from (i + 1) xs)
      ] in
      by (test x) refl

  at_from : (xs : List X) (place : Option ℕ) → IsFrom 0 xs place → IsAt test xs place
  at_from xs None h = h
  at_from xs (Some k) h = let e : h.0 ≡ k = omega (arith, h.1) in subst (λ (n : ℕ). IsSomeAnd (slice_get xs n) (λ x. test x ≡ true)) e h.2

  pub at_position : (xs : List X) (place : Option ℕ) → place ≡ position_from test 0 xs → IsAt test xs place
  at_position xs place e = subst (λ (r : Option ℕ). IsAt test xs r) (sym e) (at_from xs (position_from test 0 xs) (is_from 0 xs))

  at_behind : (n k : ℕ) (xs : List X) → IsSomeAnd (slice_get (drop n xs) k) (λ x. test x ≡ true) → IsSomeAnd (slice_get xs (n + k)) (λ x. test x ≡ true)
  at_behind zero k xs h = let e : k ≡ 0 + k = omega arith in subst (λ (n : ℕ). IsSomeAnd (slice_get xs n) (λ x. test x ≡ true)) e h
  at_behind (suc n) k [] h = absurd h
  at_behind (suc n) k (x ∷ xs) h = let e : suc (n + k) ≡ suc n + k = omega arith in subst (λ (m : ℕ). IsSomeAnd (slice_get (x ∷ xs) m) (λ y. test y ≡ true)) e (at_behind n k xs h)

  pub is_behind : (n k : ℕ) (xs : List X) → IsAt test (drop n xs) (Some k) → IsAt test xs (Some (n + k))
  is_behind n k xs h = at_behind n k xs h

  at_front : (n k : ℕ) (xs : List X) → IsSomeAnd (slice_get (take n xs) k) (λ x. test x ≡ true) → IsSomeAnd (slice_get xs k) (λ x. test x ≡ true)
  at_front zero k xs h = absurd h
  at_front (suc n) k [] h = absurd h
  at_front (suc n) zero (x ∷ xs) h = h
  at_front (suc n) (suc k) (x ∷ xs) h = at_front n k xs h

  none_in_both : (n : ℕ) (xs : List X) → list_any test (take n xs) ≡ false → list_any test (drop n xs) ≡ false → list_any test xs ≡ false
  none_in_both zero xs front behind = behind
  none_in_both (suc n) [] front behind = refl
  none_in_both (suc n) (x ∷ xs) front behind =
      let by : (b : Bool) → test x ≡ b → (b || list_any test (take n xs)) ≡ false → (test x || list_any test xs) ≡ false =
      λ b. elim b as (λ b. test x ≡ b → (b || list_any test (take n xs)) ≡ false → (test x || list_any test xs) ≡ false) [
        | true ↦ λ e f. absurd cc
        | false ↦ λ e f. ap (λ b. b || list_any test xs) e ∙ none_in_both n xs f behind
      ] in
      by (test x) refl front

  pub is_before : (n : ℕ) (xs : List X) (place : Option ℕ) → IsAt test (drop n xs) None → IsAt test (take n xs) place → IsAt test xs place
  is_before n xs None behind front = none_in_both n xs front behind
  is_before n xs (Some k) behind front = at_front n k xs front

  within : (xs : List X) (k : ℕ) → IsSomeAnd (slice_get xs k) (λ x. test x ≡ true) → (k < length xs) × ((d : X) → test (get_or xs k d) ≡ true)
  within [] k h = absurd h
  within (x ∷ xs) zero h = (omega arith, λ d. h)
  within (x ∷ xs) (suc k) h = let w = within xs k h in (omega (arith, w.0), λ d. w.1 d)

  pub at_within : (xs : List X) (k : ℕ) → IsAt test xs (Some k) → k < length xs
  at_within xs k h = (within xs k h).0

  pub at_passes : (xs : List X) (k : ℕ) (d : X) → IsAt test xs (Some k) → test (get_or xs k d) ≡ true
  at_passes xs k d h = (within xs k h).1 d

-- Lists whose elements have distinct keys, and f changes those alone that have one key.
module _ {X : Type 0} (key : X → ℕ) where
  get_or-key : (xs : List X) (k : ℕ) (d : X) → get_or (map key xs) k (key d) ≡ key (get_or xs k d)
  get_or-key [] k d = refl
  get_or-key (x ∷ xs) zero d = refl
  get_or-key (x ∷ xs) (suc k) d = get_or-key xs k d

  distinct_rest : (x : X) (xs : List X) → AreDistinct (map key (x ∷ xs)) → AreDistinct (map key xs)
  distinct_rest x xs h = λ i j d before within e. h (suc i) (suc j) d (omega arith) (omega arith) e

  first_alone : (x : X) (xs : List X) → AreDistinct (map key (x ∷ xs)) → (k : ℕ) (d : X) → k < length xs → key x ≢ key (get_or xs k d)
  first_alone x xs h k d within e = h 0 (suc k) (key d) (omega arith) (omega (arith, length_keys xs)) (e ∙ sym (get_or-key xs k d))
    where
      length_keys : (ys : List X) → length (map key ys) ≡ length ys
      length_keys [] = refl
      length_keys (y ∷ ys) = omega (arith, length_keys ys)

  module _ (f : X → X) (u : ℕ) (others : (x : X) → key x ≢ u → f x ≡ x) where
    unchanged : (xs : List X) → ((k : ℕ) (d : X) → k < length xs → key (get_or xs k d) ≢ u) → map f xs ≡ xs
    unchanged [] h = refl
    unchanged (x ∷ xs) h = rw (others x (h 0 x (omega arith)), unchanged xs (λ k d l. h (suc k) d (omega arith))) refl

    pub none_changed : (xs : List X) (test : X → Bool) → ((x : X) → test x ≡ false → key x ≢ u) → list_any test xs ≡ false → map f xs ≡ xs
    none_changed [] test fails h = refl
    none_changed (x ∷ xs) test fails h =
        let by : (b : Bool) → test x ≡ b → (b || list_any test xs) ≡ false → map f (x ∷ xs) ≡ x ∷ xs =
        λ b. elim b as (λ b. test x ≡ b → (b || list_any test xs) ≡ false → map f (x ∷ xs) ≡ x ∷ xs) [
          | true ↦ λ e g. absurd cc
          | false ↦ λ e g. ap (λ y. y ∷ map f xs) (others x (fails x e)) ∙ ap (λ ys. x ∷ ys) (none_changed xs test fails g)
        ] in
        by (test x) refl h

    pub one_changed : (xs : List X) (p : ℕ) (d v : X) → AreDistinct (map key xs) → p < length xs → key (get_or xs p d) ≡ u → v ≡ f (get_or xs p d) → set xs p v ≡ map f xs
    one_changed [] p d v once l is e = absurd (omega arith)
    one_changed (x ∷ xs) zero d v once l is e =
        rw e (sym (ap (λ ys. f x ∷ ys) (unchanged xs (λ k d l same. first_alone x xs once k d l (is ∙ sym same)))))
    one_changed (x ∷ xs) (suc p) d v once l is e =
        let kept : f x ≡ x = others x (λ same. first_alone x xs once p d (omega arith) (same ∙ sym is)) in
        ap (λ ys. x ∷ ys) (one_changed xs p d v (distinct_rest x xs once) (omega arith) is e) ∙ ap (λ y. y ∷ map f xs) (sym kept)

-- A loop that puts f of each element in its place.
module _ {X : Type 0} (f : X → X) where
  length_met : (i : ℕ) (before : List X) → length (map f (take i before) ++ drop i before) ≡ length before
  length_met zero before = refl
  length_met (suc i) [] = refl
  length_met (suc i) (x ∷ xs) = omega (arith, length_met i xs)

  set_met : (i : ℕ) (before : List X) (d : X) → i < length before →
      set (map f (take i before) ++ drop i before) i (f (get_or (map f (take i before) ++ drop i before) i d)) ≡ map f (take (suc i) before) ++ drop (suc i) before
  set_met i [] d within = absurd (omega arith)
  set_met zero (x ∷ xs) d within = refl
  set_met (suc i) (x ∷ xs) d within = ap (λ r. f x ∷ r) (set_met i xs d (omega arith))

  pub met_step : (before now : List X) (i : ℕ) (d : X) → now ≡ map f (take i before) ++ drop i before → i < length now → set now i (f (get_or now i d)) ≡ map f (take (i + 1) before) ++ drop (i + 1) before
  met_step before now i d e within =
      let more : i + 1 ≡ suc i = omega arith in
      let inside : i < length before = omega (arith, ap length e, length_met i before) in
      ap (λ (l : List X). set l i (f (get_or l i d))) e ∙ set_met i before d inside ∙ sym (ap (λ n. map f (take n before) ++ drop n before) more)

pub drop_past : {X : Type 0} (i : ℕ) (xs : List X) → length xs ≤ i → drop i xs ≡ []
drop_past zero [] h = refl
drop_past zero (x ∷ xs) h = absurd (omega (arith, h))
drop_past (suc i) [] h = refl
drop_past (suc i) (x ∷ xs) h = drop_past i xs (omega (arith, h))

pub drop_next : {X : Type 0} (i : ℕ) (xs : List X) (d : X) → i < length xs → drop i xs ≡ get_or xs i d ∷ drop (i + 1) xs
drop_next i [] d h = absurd (omega (arith, h))
drop_next zero (x ∷ xs) d h = refl
drop_next (suc i) (x ∷ xs) d h =
    let e : suc (i + 1) ≡ suc i + 1 = omega arith in drop_next i xs d (omega (arith, h)) ∙ ap (λ n. get_or xs i d ∷ drop n (x ∷ xs)) e
