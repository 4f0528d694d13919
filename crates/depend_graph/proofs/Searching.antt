-- The steps of a search: what is found stands above, and once all were looked at, all that stands above is found.
use Rattle.std.proofs.Common.{◌≡◌, ◌<◌, ◌≤◌, ◌+◌, ℕ, List, [], length, get_or, ◌⊎◌, inl, inr, true, All, refl, sym, ap, ◌∙◌, subst, arith}
use Rattle.std.proofs.lemmas.Bool.{cases_lt}
use Rattle.site_model.specs.PlainSite.{PlainSite}
use Rattle.site_model.specs.Sound.{AreDistinct}
use Rattle.run_meaning.specs.Reachability.{parents_of}
use Rattle.run_meaning.specs.Turns.{of_index}
use Rattle.depend_graph.specs.Parents.{AreParents, has, IsAbove}
use Rattle.depend_graph.specs.Search.{added, AreAbove}
use Rattle.depend_graph.proofs.Above.{above_up, all_found, parent_above}
use Rattle.depend_graph.proofs.Has.{place_of, stands_at}
use Rattle.depend_graph.proofs.Marking.{added_all, added_at, added_keeps, added_meets}

-- the parents of the first so many of those found are found
abbrev pub AreClosed : List (List ℕ) → List ℕ → ℕ → Type 0
AreClosed parents found n = (k q : ℕ) → k < n → has q (of_index (get_or found k 0) parents) ≡ true → has q found ≡ true

pub closed_more : (parents : List (List ℕ)) (found after : List ℕ) (n : ℕ) → n < length found → after ≡ added found (of_index (get_or found n 0) parents) → AreClosed parents found n → AreClosed parents after (n + 1)
closed_more parents found after n l is closed k q h up =
    ap (has q) is ∙ by (cases_lt k n) (subst (λ xs. has q (of_index (get_or xs k 0) parents) ≡ true) is up)
  where
    by : (k < n) ⊎ (n ≤ k) → has q (of_index (get_or (added found (of_index (get_or found n 0) parents)) k 0) parents) ≡ true → has q (added found (of_index (get_or found n 0) parents)) ≡ true
    by (inl m) up =
        let e = added_at found (of_index (get_or found n 0) parents) k (omega (arith, m, l)) in
        added_keeps found (of_index (get_or found n 0) parents) q (closed k q m (ap (λ z. has q (of_index z parents)) (sym e) ∙ up))
    by (inr m) up =
        let same : k ≡ n = omega (arith, m, h) in
        let e = added_at found (of_index (get_or found n 0) parents) n l in
        added_all found (of_index (get_or found n 0) parents) q
        (ap (λ z. has q (of_index z parents)) (sym (ap (λ j. get_or (added found (of_index (get_or found n 0) parents)) j 0) same ∙ e)) ∙ up)

pub begun_more : (found after ps start : List ℕ) → after ≡ added found ps → ((q : ℕ) → has q start ≡ true → has q found ≡ true) → (q : ℕ) → has q start ≡ true → has q after ≡ true
begun_more found after ps start is begun q h = ap (has q) is ∙ added_keeps found ps q (begun q h)

pub begun_first : (after start : List ℕ) → after ≡ added [] start → (q : ℕ) → has q start ≡ true → has q after ≡ true
begun_first after start is q h = ap (has q) is ∙ added_all [] start q h

pub above_more : (parents : List (List ℕ)) (s : PlainSite) (c : ℕ) (found after : List ℕ) (n : ℕ) → AreParents s parents → n < length found → get_or found n 0 < length parents
    → after ≡ added found (of_index (get_or found n 0) parents) → All (λ p. IsAbove s c p) found → All (λ p. IsAbove s c p) after
above_more parents s c found after n are l inside is above =
    subst (All (λ p. IsAbove s c p)) (sym is) (added_meets (λ p. IsAbove s c p) found (of_index (get_or found n 0) parents) above new)
  where
    new : All (λ p. IsAbove s c p) (of_index (get_or found n 0) parents)
    new i d h =
        let q = get_or (of_index (get_or found n 0) parents) i d in
        let e = are.many in
        above_up s c (get_or found n 0) q (above n 0 l)
        (ap (has q) (sym (are.parents (get_or found n 0) (omega (arith, inside, e)))) ∙ stands_at q (of_index (get_or found n 0) parents) i d h refl)

pub above_first : (parents : List (List ℕ)) (s : PlainSite) (c : ℕ) (after : List ℕ) → AreParents s parents → c < length parents → after ≡ added [] (of_index c parents) → All (λ p. IsAbove s c p) after
above_first parents s c after are inside is =
    subst (All (λ p. IsAbove s c p)) (sym is) (added_meets (λ p. IsAbove s c p) [] (of_index c parents) (λ k d l. absurd (omega (arith, l))) new)
  where
    new : All (λ p. IsAbove s c p) (of_index c parents)
    new i d h =
        let q = get_or (of_index c parents) i d in
        let e = are.many in
        parent_above s c q (ap (has q) (sym (are.parents c (omega (arith, inside, e)))) ∙ stands_at q (of_index c parents) i d h refl)

pub all_above : (parents : List (List ℕ)) (s : PlainSite) (c : ℕ) (found : List ℕ) (n : ℕ) → AreParents s parents → c < length parents → All (λ p. p < length parents) found → AreDistinct found
    → length found ≤ n → ((q : ℕ) → has q (of_index c parents) ≡ true → has q found ≡ true) → AreClosed parents found n → All (λ p. IsAbove s c p) found → AreAbove s c found
all_above parents s c found n are inside below once most begun closed above = record {
  above = λ p. (λ h. let place = place_of p found h in subst (λ z. IsAbove s c z) (place.2 0) (above place.0 0 place.1), λ a. all_found s found all_closed a.0 p c start a.1);
  once = once;
}
  where
    start : (q : ℕ) → has q (parents_of s c) ≡ true → has q found ≡ true
    start q h = let e = are.many in begun q (ap (has q) (are.parents c (omega (arith, inside, e))) ∙ h)

    all_closed : (x q : ℕ) → has x found ≡ true → has q (parents_of s x) ≡ true → has q found ≡ true
    all_closed x q mine up =
        let place = place_of x found mine in
        let at = place.2 0 in
        let l = place.1 in
        let low : x < length parents = subst (λ z. z < length parents) at (below place.0 0 l) in
        let e = are.many in
        closed place.0 q (omega (arith, l, most))
        (ap (λ z. has q (of_index z parents)) at ∙ ap (has q) (are.parents x (omega (arith, low, e))) ∙ up)
