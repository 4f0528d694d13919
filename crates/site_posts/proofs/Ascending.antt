-- Places in checkables that ascend.
use Rattle.std.proofs.Common.{◌≡◌, ◌≢◌, ◌⊎◌, ℕ, zero, suc, ◌<◌, ◌≤◌, List, length, get_or, slice_get, Some, Result, Ok, Err, inl, inr, sym, ap, ◌∙◌, arith}
use Rattle.std.specs.Prelude.{Contains}
use Rattle.std.specs.Ordering.{nat_cmp}
use Rattle.std.specs.Result.{MatchResult}
use Rattle.std.specs.List.Sorted.{IsBinarySearchResult}
use Rattle.std.proofs.lemmas.Bool.{cases_lt, cases_order}
use Rattle.std.proofs.lemmas.List.{get_or_default}
use Rattle.std.proofs.lemmas.List.Sorted.{searched}
use Rattle.std.proofs.lemmas.Option.{slice_get_within, get_or_from_slice_get, slice_get-get_or}
use Rattle.site_posts.specs.Outlooks.{Ascends, IsNoneOf}

module _ (ks : List ℕ) (up : Ascends ks) where
  never_falls : (i j : ℕ) → i ≤ j → j < length ks → get_or ks i 0 ≤ get_or ks j 0
  never_falls i j l h = by (cases_order i j)
    where
      by : (i ≡ j) ⊎ ((i < j) ⊎ (j < i)) → get_or ks i 0 ≤ get_or ks j 0
      by (inl e) = let q = ap (λ k. get_or ks k 0) e in omega (arith, q)
      by (inr (inl m)) = let q = up i j m h in omega (arith, q)
      by (inr (inr m)) = absurd (omega (arith, l, m))

  -- what stands at a place is no less than the place
  pub place_fits : (i : ℕ) → i < length ks → i ≤ get_or ks i 0
  place_fits zero l = omega arith
  place_fits (suc i) l = let before = place_fits i (omega (arith, l)) in let next = up i (suc i) (omega arith) l in omega (arith, before, next)

  module _ (x : ℕ) where
    abbrev Finds : Result ℕ ℕ → Type 0
    Finds r = MatchResult r (λ i. (i < length ks) × (get_or ks i 0 ≡ x)) (λ i. (i ≤ length ks) × ((k : ℕ) → k < i → get_or ks k 0 < x) × ((k : ℕ) → i ≤ k → k < length ks → x < get_or ks k 0))

    finds : (r : Result ℕ ℕ) → IsBinarySearchResult (λ y. nat_cmp y x) ks r → Finds r
    finds r h = searched ks x r h never_falls

    -- where it is found, it stands
    pub found : (i : ℕ) → IsBinarySearchResult (λ y. nat_cmp y x) ks (Ok i) → slice_get ks i ≡ Some x
    found i h = let f = finds (Ok i) h in slice_get-get_or ks i 0 f.0 ∙ ap Some f.1

    -- where it isn't found, it isn't there
    pub not_found : (i : ℕ) → IsBinarySearchResult (λ y. nat_cmp y x) ks (Err i) → IsNoneOf x ks
    not_found i h k j at same = by (cases_lt k i)
      where
        here : get_or ks k 0 ≡ j
        here = get_or_from_slice_get ks k j 0 at

        by : (k < i) ⊎ (i ≤ k) → ⊥
        by (inl m) = let q = (finds (Err i) h).1 k m in omega (arith, q, here, same)
        by (inr m) = let q = (finds (Err i) h).2 k m (slice_get_within ks k j at) in omega (arith, q, here, same)

    pub is_missed : (i : ℕ) → IsBinarySearchResult (λ y. nat_cmp y x) ks (Err i) → Contains ks x → ⊥
    is_missed i h there = not_found i h there.0 x (slice_get-get_or ks there.0 x there.1 ∙ ap Some there.2) (sym (sym there.2 ∙ there.2))
