-- Which checkables the ancestors are.
use Rattle.std.proofs.Common.{◌≡◌, ◌<◌, ◌≤◌, ◌+◌, ◌&&◌, ◌||◌, ℕ, zero, suc, List, [], ◌∷◌, ◌++◌, length, filter, nat_eq, cond, ◌⊎◌, inl, inr, Bool, true, false, refl, sym, ap, ◌∙◌, arith, eqb-true}
use Rattle.std.proofs.lemmas.Bool.{and_parts, or_cases, or_left, or_right, cases_eq}
use Rattle.site_model.specs.PlainSite.{PlainSite}
use Rattle.run_meaning.specs.Reachability.{ancestors, is_above}
use Rattle.run_meaning.specs.Turns.{from_on}
use Rattle.depend_graph.specs.Parents.{has}
use Rattle.depend_graph.proofs.Has.{eq_self}

-- what a filter keeps
pub has_filter : (test : ℕ → Bool) (ns : List ℕ) (n : ℕ) → has n (filter test ns) ≡ (has n ns && test n)
has_filter test [] n = refl
has_filter test (m ∷ ms) n = by (nat_eq n m) refl (test m) refl (has_filter test ms n)
  where
    by : (t : Bool) → nat_eq n m ≡ t → (u : Bool) → test m ≡ u → has n (filter test ms) ≡ (has n ms && test n)
        → has n (cond u (m ∷ filter test ms) (filter test ms)) ≡ ((t || has n ms) && test n)
    by true e true k h = ap (λ b. b || has n (filter test ms)) e ∙ sym k ∙ ap test (sym (eqb-true n m e))
    by true e false k h =
        let no : test n ≡ false = ap test (eqb-true n m e) ∙ k in
        h ∙ ap (λ b. has n ms && b) no ∙ last (has n ms) ∙ sym no
      where
        last : (t : Bool) → (t && false) ≡ false
        last true = refl
        last false = refl
    by false e true k h = ap (λ b. b || has n (filter test ms)) e ∙ h
    by false e false k h = h

pub in_range : (first many n : ℕ) → has n (from_on first many) ≡ true → (first ≤ n) × (n < first + many)
in_range first zero n h = absurd cc
in_range first (suc many) n h = by (in_range (suc first) many n) (or_cases (nat_eq n first) (has n (from_on (suc first) many)) h)
  where
    by : (has n (from_on (suc first) many) ≡ true → (suc first ≤ n) × (n < suc first + many)) → (nat_eq n first ≡ true) ⊎ (has n (from_on (suc first) many) ≡ true) → (first ≤ n) × (n < first + suc many)
    by f (inl e) = let q = eqb-true n first e in (omega (arith, q), omega (arith, q))
    by f (inr e) = let r = f e in let a = r.0 in let b = r.1 in (omega (arith, a), omega (arith, b))

pub range_has : (first many n : ℕ) → first ≤ n → n < first + many → has n (from_on first many) ≡ true
range_has first zero n low high = absurd (omega (arith, low, high))
range_has first (suc many) n low high = by (range_has (suc first) many n) (cases_eq n first)
  where
    by : (suc first ≤ n → n < suc first + many → has n (from_on (suc first) many) ≡ true) → (n ≡ first) ⊎ (n ≡ first → ⊥) → has n (from_on first (suc many)) ≡ true
    by f (inl e) = or_left (nat_eq n first) (has n (from_on (suc first) many)) (ap (λ z. nat_eq n z) (sym e) ∙ eq_self n)
    by f (inr ne) = or_right (nat_eq n first) (has n (from_on (suc first) many)) (f (omega (arith, ne, low)) (omega (arith, high)))

-- an ancestor is one of the site's checkables
pub ancestor_in : (s : PlainSite) (c p : ℕ) → has p (ancestors s c) ≡ true → p < length s.checkables
ancestor_in s c p h =
    let both = and_parts (has p (from_on 0 (length s.checkables))) (is_above s (length s.checkables) p c) (sym (has_filter (λ q. is_above s (length s.checkables) q c) (from_on 0 (length s.checkables)) p) ∙ h) in
    let r = in_range 0 (length s.checkables) p both.0 in
    omega (arith, r.1)

range_push : (first many : ℕ) → from_on first (suc many) ≡ from_on first many ++ (first + many) ∷ []
range_push first zero = let e : first ≡ first + 0 = omega arith in ap (λ k. k ∷ []) e
range_push first (suc many) = let e : suc first + many ≡ first + suc many = omega arith in ap (λ ks. first ∷ ks) (range_push (suc first) many ∙ ap (λ k. from_on (suc first) many ++ k ∷ []) e)

-- the numbers so far, and one more
pub range_more : (n : ℕ) → from_on 0 (n + 1) ≡ from_on 0 n ++ n ∷ []
range_more n =
    let e : n + 1 ≡ suc n = omega arith in
    let f : 0 + n ≡ n = omega arith in
    ap (from_on 0) e ∙ range_push 0 n ∙ ap (λ k. from_on 0 n ++ k ∷ []) f
