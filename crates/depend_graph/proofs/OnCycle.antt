-- The dependencies on a cycle, found one after another.
use Rattle.std.proofs.Common.{◌≡◌, ◌≢◌, ◌<◌, ◌≤◌, ◌+◌, ◌⊎◌, inl, inr, ℕ, List, [], ◌∷◌, ◌++◌, length, get_or, slice_get, Some, true, false, All, AllPairs, sym, ap, ◌∙◌, subst, arith}
use Rattle.std.proofs.lemmas.Bool.{cases_lt, cases_order}
use Rattle.std.proofs.lemmas.List.Elements.{All-push}
use Rattle.std.proofs.lemmas.List.Quantifiers.{all_pairs_push}
use Rattle.std.proofs.lemmas.Option.{slice_get-get_or, slice_get_within}
use Rattle.site_model.specs.PlainSite.{PlainSite}
use Rattle.site_model.specs.declared.depend_spec.DependSpec.{DependSpec}
use Rattle.depend_graph.specs.Cycles.{AreOnCycles, IsOnCycle}
use Rattle.depend_graph.specs.Parents.{has}
use Rattle.depend_graph.specs.Search.{AreAbove}
use Rattle.depend_graph.proofs.Has.{contains_of_has, has_of_contains, has_push, has_push_other, has_pushed, never_both}

-- whether a dependency is on a cycle, by the ancestors of its parent

pub by_ancestors : (s : PlainSite) (d : DependSpec) (found : List ℕ) → AreAbove s d.parent found → has d.child found ≡ true → IsOnCycle s d
by_ancestors s d found are h = inr ((are.above d.child).0 h)

pub by_none : (s : PlainSite) (d : DependSpec) (found : List ℕ) → AreAbove s d.parent found → d.child ≢ d.parent → has d.child found ≡ false → ¬ IsOnCycle s d
by_none s d found are apart gone (inl e) = apart e
by_none s d found are apart gone (inr a) = never_both ((are.above d.child).1 a) gone

-- these are the dependencies on a cycle among those before a place, ascending
pub record AreFound (s : PlainSite) (place : ℕ) (found : List ℕ) : Type 0 where
  pub rising : AllPairs (λ j k. j < k) found
  pub below : All (λ k. k < place) found
  pub own : (k : ℕ) → has k found ≡ true → (d : DependSpec) × (slice_get s.depends k ≡ Some d) × IsOnCycle s d
  pub named : (k : ℕ) (d : DependSpec) → k < place → slice_get s.depends k ≡ Some d → IsOnCycle s d → has k found ≡ true

pub none_found : (s : PlainSite) → AreFound s 0 []
none_found s = record {
  rising = λ i j d lt l. absurd (omega (arith, l));
  below = λ k d l. absurd (omega (arith, l));
  own = λ k h. absurd cc;
  named = λ k d l at on. absurd (omega (arith, l));
}

same_one : (s : PlainSite) (k : ℕ) (d e : DependSpec) → slice_get s.depends k ≡ Some d → slice_get s.depends k ≡ Some e → d ≡ e
same_one s k d e at there = cc

pub passed : (s : PlainSite) (place : ℕ) (found : List ℕ) (d : DependSpec) → AreFound s place found → slice_get s.depends place ≡ Some d → ¬ IsOnCycle s d → AreFound s (place + 1) found
passed s place found d are at off = record {
  rising = are.rising;
  below = λ k z l. let h = are.below k z l in omega (arith, h);
  own = are.own;
  named = λ k e l there on. by k e l there on (cases_lt k place);
}
  where
    by : (k : ℕ) (e : DependSpec) → k < place + 1 → slice_get s.depends k ≡ Some e → IsOnCycle s e → (k < place) ⊎ (place ≤ k) → has k found ≡ true
    by k e l there on (inl m) = are.named k e m there on
    by k e l there on (inr m) =
        let same : k ≡ place = omega (arith, l, m) in
        absurd (off (subst (IsOnCycle s) (same_one s place e d (ap (slice_get s.depends) (sym same) ∙ there) at) on))

pub added_one : (s : PlainSite) (place : ℕ) (found : List ℕ) (d : DependSpec) → AreFound s place found → slice_get s.depends place ≡ Some d → IsOnCycle s d → AreFound s (place + 1) (found ++ place ∷ [])
added_one s place found d are at on = record {
  rising = all_pairs_push (λ j k. j < k) found place are.rising (λ k z l. are.below k z l);
  below = below;
  own = λ k h. own k h (cases_order k place);
  named = λ k e l there is. named k e l there is (cases_lt k place);
}
  where
    own : (k : ℕ) → has k (found ++ place ∷ []) ≡ true → (k ≡ place) ⊎ ((k < place) ⊎ (place < k)) → (e : DependSpec) × (slice_get s.depends k ≡ Some e) × IsOnCycle s e
    own k h (inl e) = (d, ap (slice_get s.depends) e ∙ at, on)
    own k h (inr apart) = are.own k (sym (has_push_other k place found (other k apart)) ∙ h)
      where
        other : (k : ℕ) → (k < place) ⊎ (place < k) → k ≢ place
        other k (inl m) e = omega (arith, m, e)
        other k (inr m) e = omega (arith, m, e)

    named : (k : ℕ) (e : DependSpec) → k < place + 1 → slice_get s.depends k ≡ Some e → IsOnCycle s e → (k < place) ⊎ (place ≤ k) → has k (found ++ place ∷ []) ≡ true
    named k e l there is (inl m) = has_push k place found (are.named k e m there is)
    named k e l there is (inr m) =
        let same : place ≡ k = omega (arith, l, m) in
        subst (λ n. has n (found ++ place ∷ []) ≡ true) same (has_pushed place found)

    below : All (λ k. k < place + 1) (found ++ place ∷ [])
    below = All-push (λ k. k < place + 1) found place (λ k z l. (let h = are.below k z l in omega (arith, h))) (omega arith)

within : (s : PlainSite) (k : ℕ) (d : DependSpec) → slice_get s.depends k ≡ Some d → k < length s.depends
within s k d at = slice_get_within s.depends k d at

pub all_found : (s : PlainSite) (found : List ℕ) → AreFound s (length s.depends) found → found ≢ [] → AreOnCycles s found
all_found s found are some = record {
  some = some;
  rising = are.rising;
  all = λ k. (λ c. are.own k (has_of_contains k found c), λ (d, at, on). contains_of_has k found (are.named k d (within s k d at) at on));
}

pub no_found : (s : PlainSite) (found : List ℕ) → AreFound s (length s.depends) found → found ≡ [] → All (λ (d : DependSpec). ¬ IsOnCycle s d) s.depends
no_found s found are none k z l on =
    let h : has k found ≡ true = are.named k (get_or s.depends k z) l (slice_get-get_or s.depends k z l) on in
    let e : has k [] ≡ true = ap (has k) (sym none) ∙ h in
    absurd cc
