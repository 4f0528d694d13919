-- Parents come first, so that what holds them back is known where it is asked.
use Rattle.std.proofs.Common.{◌≡◌, ◌<◌, ◌≤◌, ℕ, suc, List, length, get_or, set, nat_eq, cond, ◌⊎◌, inl, inr, Bool, true, false, AllPairs, refl, sym, ap, ◌∙◌, subst, arith, eqb-true}
use Rattle.std.proofs.lemmas.Bool.{cases_lt, cases_order}
use Rattle.run_meaning.specs.Reachability.{Outlook, ancestors, is_held, parents_of, reach_of}
use Rattle.depend_graph.specs.Graph.{AreParentsFirst, HasOrder}
use Rattle.depend_graph.specs.Outlooks.{flagged, step_of}
use Rattle.depend_graph.specs.Parents.{has}
use Rattle.depend_graph.proofs.Ancestors.{ancestor_in}
use Rattle.depend_graph.proofs.Flags.{flag_set}
use Rattle.depend_graph.proofs.Has.{eq_self, place_of, stands_at}
use Rattle.depend_graph.proofs.Steps.{reach_step, step_same}

module _ (o : Outlook) (ordered : HasOrder o.site) (c : ℕ) (within : c < length o.site.checkables) (order : List ℕ) (first : AreParentsFirst o.site c order) where
  abbrev held : ℕ → Bool
  held q = is_held (reach_of o q)

  -- the flags of so many in the order are right
  abbrev pub AreKnown : List ℕ → List Bool → ℕ → Type 0
  AreKnown above flags i = (k : ℕ) → k < i → flagged above flags (get_or order k 0) ≡ held (get_or order k 0)

  in_order : (q : ℕ) → has q (ancestors o.site c) ≡ true → (j : ℕ) × (j < length order) × (get_or order j 0 ≡ q)
  in_order q h = let place = place_of q order (first.same q ∙ h) in (place.0, place.1, place.2 0)

  known_at : (above : List ℕ) (flags : List Bool) (i j q : ℕ) → AreKnown above flags i → j < i → get_or order j 0 ≡ q → flagged above flags q ≡ held q
  known_at above flags i j q known l at = subst (λ z. flagged above flags z ≡ held z) at (known j l)

  -- the parents of the next in the order are known
  parents_known : (above : List ℕ) (flags : List Bool) (i : ℕ) → i < length order → AreKnown above flags i
      → (q : ℕ) → has q (parents_of o.site (get_or order i 0)) ≡ true → flagged above flags q ≡ held q
  parents_known above flags i l known q up = by (in_order q (ordered.further c (get_or order i 0) q within mine up))
    where
      mine : has (get_or order i 0) (ancestors o.site c) ≡ true
      mine = sym (first.same (get_or order i 0)) ∙ stands_at (get_or order i 0) order i 0 l refl

      low : length (ancestors o.site q) < length (ancestors o.site (get_or order i 0))
      low = ordered.fewer (get_or order i 0) q (ancestor_in o.site c (get_or order i 0) mine) up

      by : (j : ℕ) × (j < length order) × (get_or order j 0 ≡ q) → flagged above flags q ≡ held q
      by (j, m, at) = on (cases_order j i)
        where
          on : (j ≡ i) ⊎ ((j < i) ⊎ (i < j)) → flagged above flags q ≡ held q
          on (inl e) =
              let same : get_or order i 0 ≡ q = ap (λ k. get_or order k 0) (sym e) ∙ at in
              let f = ap (λ z. length (ancestors o.site z)) same in absurd (omega (arith, low, f))
          on (inr (inl h)) = known_at above flags i j q known h at
          on (inr (inr h)) =
              let rises = first.rising i j 0 h m in
              let f = ap (λ z. length (ancestors o.site z)) at in absurd (omega (arith, low, f, rises))

  -- so what holds it back is right
  pub reach_next : (above : List ℕ) (flags : List Bool) (i : ℕ) → i < length order → AreKnown above flags i → step_of o (flagged above flags) (get_or order i 0) ≡ reach_of o (get_or order i 0)
  reach_next above flags i l known =
      step_same o (flagged above flags) held (get_or order i 0) (parents_known above flags i l known)
      ∙ sym (reach_step o ordered (get_or order i 0) (ancestor_in o.site c (get_or order i 0) (sym (first.same (get_or order i 0)) ∙ stands_at (get_or order i 0) order i 0 l refl)))

  pub reach_last : (above : List ℕ) (flags : List Bool) → AreKnown above flags (length order) → step_of o (flagged above flags) c ≡ reach_of o c
  reach_last above flags known =
      step_same o (flagged above flags) held c
      (λ q up. let (j, l, at) = in_order q (ordered.parents c q within up) in known_at above flags (length order) j q known l at)
      ∙ sym (reach_step o ordered c within)

  pub known_more : (above : List ℕ) (flags : List Bool) (i place : ℕ) (v : Bool) → AllPairs (λ j k. j < k) above → place < length above → length flags ≡ length above
      → get_or above place 0 ≡ get_or order i 0 → v ≡ held (get_or order i 0) → AreKnown above flags i → AreKnown above (set flags place v) (suc i)
  known_more above flags i place v up l long at is known k h =
      flag_set above flags place (get_or order i 0) (get_or order k 0) v up l long at ∙ by (nat_eq (get_or order i 0) (get_or order k 0)) refl
    where
      by : (t : Bool) → nat_eq (get_or order i 0) (get_or order k 0) ≡ t → cond t v (flagged above flags (get_or order k 0)) ≡ held (get_or order k 0)
      by true q = is ∙ ap held (eqb-true (get_or order i 0) (get_or order k 0) q)
      by false q = on (cases_lt k i)
        where
          on : (k < i) ⊎ (i ≤ k) → flagged above flags (get_or order k 0) ≡ held (get_or order k 0)
          on (inl m) = known k m
          on (inr m) =
              let same : k ≡ i = omega (arith, m, h) in
              let e : nat_eq (get_or order i 0) (get_or order k 0) ≡ true = ap (λ z. nat_eq (get_or order i 0) (get_or order z 0)) same ∙ eq_self (get_or order i 0) in
              let f : true ≡ false = sym e ∙ q in absurd cc

  -- every one in the order is an ancestor
  pub order_has : (i : ℕ) → i < length order → has (get_or order i 0) (ancestors o.site c) ≡ true
  order_has i l = sym (first.same (get_or order i 0)) ∙ stands_at (get_or order i 0) order i 0 l refl
