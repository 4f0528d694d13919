-- Ancestors that are sorted are the same, each once.
use Rattle.std.proofs.Common.{◌≡◌, ◌<◌, ◌≤◌, ◌⊎◌, inl, inr, ℕ, List, length, get_or, nat_eq, true, false, AllPairs, IsPermutation, sym, ap, ◌∙◌, arith, eq-eqb, eqb-true, refl}
use Rattle.std.specs.List.Sorted.{IsNonDecreasingBy}
use Rattle.std.proofs.lemmas.Bool.{cases_lt}
use Rattle.std.proofs.lemmas.List.Sorted.{Contains-permutation, IsPermutation-sym}
use Rattle.std.proofs.lemmas.Map.Keys.{IsDistinct-IsPermutation, IsDistinct-from_apart, apart_from_distinct}
use Rattle.site_model.specs.PlainSite.{PlainSite}
use Rattle.site_model.specs.Sound.{AreDistinct}
use Rattle.run_meaning.specs.Reachability.{ancestors}
use Rattle.run_meaning.specs.Turns.{of_index}
use Rattle.depend_graph.specs.Graph.{AreParentsFirst}
use Rattle.depend_graph.specs.Parents.{has}
use Rattle.depend_graph.specs.Search.{AreAbove}
use Rattle.depend_graph.proofs.Ancestors.{ancestor_in}
use Rattle.depend_graph.proofs.Has.{contains_of_has, eq_apart, has_of_contains, never_both, same_tests, stands_at}
use Rattle.depend_graph.proofs.Rising.{rising_distinct}

flips : (x y : ℕ) → nat_eq x y ≡ nat_eq y x
flips x y = same_tests (nat_eq x y) (nat_eq y x) (λ h. eq-eqb y x (sym (eqb-true x y h))) (λ h. eq-eqb x y (sym (eqb-true y x h)))

pub same_has : (xs ys : List ℕ) → IsPermutation xs ys → (p : ℕ) → has p ys ≡ has p xs
same_has xs ys moved p =
    same_tests (has p ys) (has p xs)
    (λ h. has_of_contains p xs (Contains-permutation ys xs p (IsPermutation-sym xs ys moved) (contains_of_has p ys h)))
    (λ h. has_of_contains p ys (Contains-permutation xs ys p moved (contains_of_has p xs h)))

-- distinct numbers that don't fall rise
pub distinct_rise : (xs ys : List ℕ) → AreDistinct xs → IsPermutation xs ys → IsNonDecreasingBy (λ x. x) ys → AllPairs (λ j k. j < k) ys
distinct_rise xs ys once moved up i j d l h = by (cases_lt (get_or ys i d) (get_or ys j d))
  where
    apart : nat_eq (get_or ys i d) (get_or ys j d) ≡ false
    apart =
        apart_from_distinct nat_eq ys i j d
        (IsDistinct-IsPermutation nat_eq flips xs ys moved (IsDistinct-from_apart nat_eq xs (λ a b e m n. eq_apart (get_or xs a e) (get_or xs b e) (once a b e m n)))) l h

    by : (get_or ys i d < get_or ys j d) ⊎ (get_or ys j d ≤ get_or ys i d) → get_or ys i d < get_or ys j d
    by (inl m) = m
    by (inr m) =
        let u = up i j d (omega (arith, l)) h in
        absurd (never_both (eq-eqb (get_or ys i d) (get_or ys j d) (omega (arith, m, u))) apart)

pub above_sorted : (s : PlainSite) (c : ℕ) (found sorted : List ℕ) → IsPermutation found sorted → AllPairs (λ j k. j < k) sorted → AreAbove s c found → AreAbove s c sorted
above_sorted s c found sorted moved up are = record {
  above = λ p. (λ h. (are.above p).0 (sym (same_has found sorted moved p) ∙ h), λ h. same_has found sorted moved p ∙ (are.above p).1 h);
  once = rising_distinct sorted up;
}

-- ancestors in the order of how many they have themselves
pub by_count : (s : PlainSite) (ancs : List (List ℕ)) (c : ℕ) (order : List ℕ) → ((p : ℕ) → p < length s.checkables → of_index p ancs ≡ ancestors s p) → IsPermutation (ancestors s c) order
    → IsNonDecreasingBy (λ p. length (of_index p ancs)) order → AreParentsFirst s c order
by_count s ancs c order are moved up = record {
  same = same_has (ancestors s c) order moved;
  rising = λ i j d l h.
      let r = up i j d (omega (arith, l)) h in
      let e = ap length (are (get_or order i d) (inside i d (omega (arith, l, h)))) in
      let f = ap length (are (get_or order j d) (inside j d h)) in
      omega (arith, r, e, f);
}
  where
    inside : (i d : ℕ) → i < length order → get_or order i d < length s.checkables
    inside i d h = let p = get_or order i d in ancestor_in s c p (sym (same_has (ancestors s c) order moved p) ∙ stands_at p order i d h refl)
