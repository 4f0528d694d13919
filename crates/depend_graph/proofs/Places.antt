-- Places in rising lists, and the places of those that pass a test.
use Rattle.std.proofs.Common.{◌≡◌, ◌<◌, ◌≤◌, ◌+◌, ℕ, zero, suc, List, [], ◌∷◌, length, get_or, slice_get, nat_eq, cond, ◌⊎◌, inl, inr, Bool, true, false, Some, Result, Ok, Err, All, AllPairs, refl, ap, ◌∙◌, arith, eqb-true}
use Rattle.std.specs.Ordering.{nat_cmp}
use Rattle.std.specs.Option.{IfSome, IfNone}
use Rattle.std.specs.Result.{MatchResult, result_ok}
use Rattle.std.specs.List.Sorted.{IsBinarySearchResult}
use Rattle.std.proofs.lemmas.Bool.{cases_lt, cases_order, or_cases, or_left, or_right}
use Rattle.std.proofs.lemmas.List.Kept.{AllPairs-cons, AllPairs-filter}
use Rattle.std.proofs.lemmas.List.Sorted.{searched}
use Rattle.site_model.specs.PlainSite.{PlainSite}
use Rattle.site_model.specs.declared.depend_spec.DependSpec.{DependSpec}
use Rattle.run_meaning.specs.Reachability.{ancestors, is_above}
use Rattle.run_meaning.specs.Turns.{from_on}
use Rattle.depend_graph.specs.Cycles.{places_of}
use Rattle.depend_graph.specs.Parents.{has}
use Rattle.depend_graph.proofs.Rising.{range_rises}
use Rattle.depend_graph.proofs.Has.{eq_self, false_from, place_of, stands_at}

pub rising_up : (xs : List ℕ) → AllPairs (λ j k. j < k) xs → (i j : ℕ) → i ≤ j → j < length xs → get_or xs i 0 ≤ get_or xs j 0
rising_up xs up i j l h = by (cases_order i j)
  where
    by : (i ≡ j) ⊎ ((i < j) ⊎ (j < i)) → get_or xs i 0 ≤ get_or xs j 0
    by (inl e) = let q = ap (λ k. get_or xs k 0) e in omega (arith, q)
    by (inr (inl m)) = let q = up i j 0 m h in omega (arith, q)
    by (inr (inr m)) = absurd (omega (arith, l, m))

module _ (xs : List ℕ) (up : AllPairs (λ j k. j < k) xs) (x : ℕ) where
  abbrev Finds : Result ℕ ℕ → Type 0
  Finds r = MatchResult r (λ i. (i < length xs) × (get_or xs i 0 ≡ x)) (λ i. (i ≤ length xs) × ((k : ℕ) → k < i → get_or xs k 0 < x) × ((k : ℕ) → i ≤ k → k < length xs → x < get_or xs k 0))

  finds : (r : Result ℕ ℕ) → IsBinarySearchResult (λ y. nat_cmp y x) xs r → Finds r
  finds r h = searched xs x r h (rising_up xs up)

  pub place_within : (r : Result ℕ ℕ) → IsBinarySearchResult (λ y. nat_cmp y x) xs r → IfSome (result_ok r) (λ k. k < length xs)
  place_within r h = by r (finds r h)
    where
      by : (r : Result ℕ ℕ) → Finds r → IfSome (result_ok r) (λ k. k < length xs)
      by (Ok k) f = f.0
      by (Err k) f = tt

  pub place_holds : (r : Result ℕ ℕ) → IsBinarySearchResult (λ y. nat_cmp y x) xs r → IfSome (result_ok r) (λ k. get_or xs k 0 ≡ x)
  place_holds r h = by r (finds r h)
    where
      by : (r : Result ℕ ℕ) → Finds r → IfSome (result_ok r) (λ k. get_or xs k 0 ≡ x)
      by (Ok k) f = f.1
      by (Err k) f = tt

  pub no_place : (r : Result ℕ ℕ) → IsBinarySearchResult (λ y. nat_cmp y x) xs r → IfNone (result_ok r) (has x xs ≡ false)
  no_place r h = by r (finds r h)
    where
      by : (r : Result ℕ ℕ) → Finds r → IfNone (result_ok r) (has x xs ≡ false)
      by (Ok k) f = tt
      by (Err i) f = false_from (has x xs) (λ q.
          let place = place_of x xs q in
          let at = place.2 0 in
          on place.0 place.1 at (cases_lt place.0 i))
        where
          on : (k : ℕ) → k < length xs → get_or xs k 0 ≡ x → (k < i) ⊎ (i ≤ k) → ⊥
          on k l at (inl m) = let q = f.1 k m in omega (arith, q, at)
          on k l at (inr m) = let q = f.2 k m l in omega (arith, q, at)

pub ancestors_rise : (s : PlainSite) (c : ℕ) → AllPairs (λ j k. j < k) (ancestors s c)
ancestors_rise s c = AllPairs-filter (λ j k. j < k) (λ p. is_above s (length s.checkables) p c) (from_on 0 (length s.checkables)) (range_rises 0 (length s.checkables))

-- The places of those that pass a test.

module _ (test : DependSpec → Bool) where
  abbrev pub PassesAt : ℕ → List DependSpec → ℕ → Type 0
  PassesAt n ds k = (i : ℕ) × (d : DependSpec) × (k ≡ n + i) × (slice_get ds i ≡ Some d) × (test d ≡ true)

  pub places_own : (n : ℕ) (ds : List DependSpec) (k : ℕ) → has k (places_of test n ds) ≡ true → PassesAt n ds k
  places_own n [] k h = absurd cc
  places_own n (d ∷ ds) k h = by (places_own (suc n) ds k) (test d) refl h
    where
      later : PassesAt (suc n) ds k → PassesAt n (d ∷ ds) k
      later (i, e, is, at, q) = (suc i, e, omega (arith, is), at, q)

      by : (has k (places_of test (suc n) ds) ≡ true → PassesAt (suc n) ds k) → (t : Bool) → test d ≡ t → has k (cond t (n ∷ places_of test (suc n) ds) (places_of test (suc n) ds)) ≡ true → PassesAt n (d ∷ ds) k
      by f false q h = later (f h)
      by f true q h = on (or_cases (nat_eq k n) (has k (places_of test (suc n) ds)) h)
        where
          on : (nat_eq k n ≡ true) ⊎ (has k (places_of test (suc n) ds) ≡ true) → PassesAt n (d ∷ ds) k
          on (inl e) = let same = eqb-true k n e in (0, d, omega (arith, same), refl, q)
          on (inr e) = later (f e)

  pub places_has : (n : ℕ) (ds : List DependSpec) (i : ℕ) (d : DependSpec) → slice_get ds i ≡ Some d → test d ≡ true → has (n + i) (places_of test n ds) ≡ true
  places_has n [] i d at q = absurd cc
  places_has n (e ∷ ds) zero d at q =
      let same : e ≡ d = cc in
      let none : n + 0 ≡ n = omega arith in
      ap (λ t. has (n + 0) (cond t (n ∷ places_of test (suc n) ds) (places_of test (suc n) ds))) (ap test same ∙ q)
      ∙ or_left (nat_eq (n + 0) n) (has (n + 0) (places_of test (suc n) ds)) (ap (λ z. nat_eq z n) none ∙ eq_self n)
  places_has n (e ∷ ds) (suc i) d at q =
      let more : n + suc i ≡ suc n + i = omega arith in
      ap (λ z. has z (places_of test n (e ∷ ds))) more ∙ by (test e) (places_has (suc n) ds i d at q)
    where
      by : (t : Bool) → has (suc n + i) (places_of test (suc n) ds) ≡ true → has (suc n + i) (cond t (n ∷ places_of test (suc n) ds) (places_of test (suc n) ds)) ≡ true
      by true h = or_right (nat_eq (suc n + i) n) (has (suc n + i) (places_of test (suc n) ds)) h
      by false h = h

  pub places_rise : (n : ℕ) (ds : List DependSpec) → AllPairs (λ j k. j < k) (places_of test n ds)
  places_rise n [] = λ i j d l h. absurd (omega (arith, h))
  places_rise n (d ∷ ds) = by (test d) (places_rise (suc n) ds)
    where
      later : All (λ k. n < k) (places_of test (suc n) ds)
      later i e h =
          let k = get_or (places_of test (suc n) ds) i e in
          let own = places_own (suc n) ds k (stands_at k (places_of test (suc n) ds) i e h refl) in
          let is = own.2 in omega (arith, is)

      by : (t : Bool) → AllPairs (λ j k. j < k) (places_of test (suc n) ds) → AllPairs (λ j k. j < k) (cond t (n ∷ places_of test (suc n) ds) (places_of test (suc n) ds))
      by true h = AllPairs-cons (λ j k. j < k) n (places_of test (suc n) ds) later h
      by false h = h
