-- No way up is longer than there are checkables, so what stands above a checkable can be calculated.
use Rattle.std.proofs.Common.{◌≡◌, ℕ, zero, suc, ◌+◌, ◌-◌, ◌<◌, ◌≤◌, ◌&&◌, ◌||◌, ◌⊎◌, inl, inr, Bool, true, false, cond, List, [], ◌∷◌, length, filter, nat_eq, AllPairs, Contains, Some, slice_get, refl, sym, ap, ◌∙◌, subst, arith, eqb-true, eq-eqb}
use Rattle.std.specs.List.{list_all, list_any}
use Rattle.std.proofs.lemmas.Bool.{and_parts, cases_lt, or_cases, or_left, or_right}
use Rattle.site_model.specs.PlainSite.{PlainSite}
use Rattle.site_model.specs.declared.depend_spec.DependSpec.{DependSpec}
use Rattle.run_meaning.specs.Reachability.{is_above, parents_of}
use Rattle.run_meaning.specs.Turns.{from_on}
use Rattle.depend_graph.specs.Cycles.{IsOnCycle, places_of}
use Rattle.depend_graph.specs.Parents.{HasParents, IsAbove, has}
use Rattle.depend_graph.proofs.Above.{all_found, step_up}
use Rattle.depend_graph.proofs.Ancestors.{has_filter, in_range, range_has}
use Rattle.depend_graph.proofs.Building.{above_in, parent_in}
use Rattle.depend_graph.proofs.Has.{any_weaker, contains_of_has, eq_back, has_of_contains}
use Rattle.depend_graph.proofs.Places.{places_has, places_own, places_rise}
use Rattle.site_phases.specs.CycleFaults.{AreTurning, is_turning, turning}

-- one step more reaches no less
more_steps : (s : PlainSite) (n p c : ℕ) → is_above s n p c ≡ true → is_above s (suc n) p c ≡ true
more_steps s zero p c h = absurd cc
more_steps s (suc n) p c h =
    any_weaker (λ q. nat_eq q p || is_above s n p q) (λ q. nat_eq q p || is_above s (suc n) p q) (parents_of s c)
    (λ q e. by (λ r k. more_steps s n p r k) q (or_cases (nat_eq q p) (is_above s n p q) e)) h
  where
    by : ((r : ℕ) → is_above s n p r ≡ true → is_above s (suc n) p r ≡ true) → (q : ℕ) → (nat_eq q p ≡ true) ⊎ (is_above s n p q ≡ true) → (nat_eq q p || is_above s (suc n) p q) ≡ true
    by f q (inl e) = or_left (nat_eq q p) (is_above s (suc n) p q) e
    by f q (inr e) = or_right (nat_eq q p) (is_above s (suc n) p q) (f q e)

steps_to : (s : PlainSite) (m k p c : ℕ) → is_above s m p c ≡ true → is_above s (k + m) p c ≡ true
steps_to s m zero p c h = let e : 0 + m ≡ m = omega arith in subst (λ n. is_above s n p c ≡ true) (sym e) h
steps_to s m (suc k) p c h = let e : suc k + m ≡ suc (k + m) = omega arith in subst (λ n. is_above s n p c ≡ true) (sym e) (more_steps s (k + m) p c (steps_to s m k p c h))

one_step : (s : PlainSite) (n p c : ℕ) → has p (parents_of s c) ≡ true → is_above s (suc n) p c ≡ true
one_step s n p c h = any_weaker (nat_eq p) (λ q. nat_eq q p || is_above s n p q) (parents_of s c) (λ q e. or_left (nat_eq q p) (is_above s n p q) (eq_back p q e)) h

-- ---- lists of numbers

all_has : (test : ℕ → Bool) (ns : List ℕ) (n : ℕ) → list_all test ns ≡ true → has n ns ≡ true → test n ≡ true
all_has test [] n h there = absurd cc
all_has test (m ∷ ns) n h there =
    let both = and_parts (test m) (list_all test ns) h in
    by (all_has test ns n both.1) both.0 (or_cases (nat_eq n m) (has n ns) there)
  where
    by : (has n ns ≡ true → test n ≡ true) → test m ≡ true → (nat_eq n m ≡ true) ⊎ (has n ns ≡ true) → test n ≡ true
    by rest first (inl e) = ap test (eqb-true n m e) ∙ first
    by rest first (inr e) = rest e

not_all : (test : ℕ → Bool) (ns : List ℕ) → list_all test ns ≡ false → (n : ℕ) × (has n ns ≡ true) × (test n ≡ false)
not_all test [] h = absurd cc
not_all test (m ∷ ns) h = by (not_all test ns) (test m) refl h
  where
    by : (list_all test ns ≡ false → (n : ℕ) × (has n ns ≡ true) × (test n ≡ false)) → (b : Bool) → test m ≡ b → (b && list_all test ns) ≡ false → (n : ℕ) × (has n (m ∷ ns) ≡ true) × (test n ≡ false)
    by rest false e k = (m, or_left (nat_eq m m) (has m ns) (eq-eqb m m refl), e)
    by rest true e k = later (rest k)
      where
        later : (n : ℕ) × (has n ns ≡ true) × (test n ≡ false) → (n : ℕ) × (has n (m ∷ ns) ≡ true) × (test n ≡ false)
        later (n, there, out) = (n, or_right (nat_eq n m) (has n ns) there, out)

fewer : (f g : ℕ → Bool) → ((x : ℕ) → f x ≡ true → g x ≡ true) → (xs : List ℕ) → length (filter f xs) ≤ length (filter g xs)
fewer f g weaker [] = omega arith
fewer f g weaker (x ∷ xs) = by (fewer f g weaker xs) (f x) refl (g x) refl
  where
    by : length (filter f xs) ≤ length (filter g xs) → (b : Bool) → f x ≡ b → (d : Bool) → g x ≡ d → length (cond b (x ∷ filter f xs) (filter f xs)) ≤ length (cond d (x ∷ filter g xs) (filter g xs))
    by rest true e true k = omega (arith, rest)
    by rest true e false k = let wrong : true ≡ false = sym (weaker x e) ∙ k in absurd cc
    by rest false e true k = omega (arith, rest)
    by rest false e false k = rest

one_fewer : (f g : ℕ → Bool) → ((x : ℕ) → f x ≡ true → g x ≡ true) → (q : ℕ) → f q ≡ false → g q ≡ true → (xs : List ℕ) → has q xs ≡ true → length (filter f xs) + 1 ≤ length (filter g xs)
one_fewer f g weaker q out into [] there = absurd cc
one_fewer f g weaker q out into (x ∷ xs) there = by (one_fewer f g weaker q out into xs) (fewer f g weaker xs) (or_cases (nat_eq q x) (has q xs) there) (f x) refl (g x) refl
  where
    by : (has q xs ≡ true → length (filter f xs) + 1 ≤ length (filter g xs)) → length (filter f xs) ≤ length (filter g xs) → (nat_eq q x ≡ true) ⊎ (has q xs ≡ true)
        → (b : Bool) → f x ≡ b → (d : Bool) → g x ≡ d → length (cond b (x ∷ filter f xs) (filter f xs)) + 1 ≤ length (cond d (x ∷ filter g xs) (filter g xs))
    by rest low (inl here) true e d k = let wrong : false ≡ true = sym out ∙ ap f (eqb-true q x here) ∙ e in absurd cc
    by rest low (inl here) false e true k = omega (arith, low)
    by rest low (inl here) false e false k = let wrong : true ≡ false = sym into ∙ ap g (eqb-true q x here) ∙ k in absurd cc
    by rest low (inr later) true e true k = let more = rest later in omega (arith, more)
    by rest low (inr later) true e false k = let wrong : true ≡ false = sym (weaker x e) ∙ k in absurd cc
    by rest low (inr later) false e true k = let more = rest later in omega (arith, more)
    by rest low (inr later) false e false k = rest later

no_more : (f : ℕ → Bool) (xs : List ℕ) → length (filter f xs) ≤ length xs
no_more f [] = omega arith
no_more f (x ∷ xs) = by (no_more f xs) (f x)
  where
    by : length (filter f xs) ≤ length xs → (b : Bool) → length (cond b (x ∷ filter f xs) (filter f xs)) ≤ length (x ∷ xs)
    by rest true = omega (arith, rest)
    by rest false = omega (arith, rest)

all_kept : (f : ℕ → Bool) (xs : List ℕ) (p : ℕ) → length xs ≤ length (filter f xs) → has p xs ≡ true → f p ≡ true
all_kept f [] p full there = absurd cc
all_kept f (x ∷ xs) p full there = by (all_kept f xs p) (no_more f xs) (f x) refl full (or_cases (nat_eq p x) (has p xs) there)
  where
    by : (length xs ≤ length (filter f xs) → has p xs ≡ true → f p ≡ true) → length (filter f xs) ≤ length xs → (b : Bool) → f x ≡ b → length (x ∷ xs) ≤ length (cond b (x ∷ filter f xs) (filter f xs))
        → (nat_eq p x ≡ true) ⊎ (has p xs ≡ true) → f p ≡ true
    by rest low true e k (inl here) = ap f (eqb-true p x here) ∙ e
    by rest low true e k (inr later) = rest (omega (arith, k)) later
    by rest low false e k h = absurd (omega (arith, low, k))

range_length : (first many : ℕ) → length (from_on first many) ≡ many
range_length first zero = refl
range_length first (suc many) = ap suc (range_length (suc first) many)

-- ---- what is reached in so many steps

module _ (s : PlainSite) (sound : HasParents s) (c : ℕ) where
  abbrev all : List ℕ
  all = from_on 0 (length s.checkables)

  abbrev reach : ℕ → List ℕ
  reach n = filter (λ p. is_above s n p c) all

  in_reach : (n p : ℕ) → is_above s n p c ≡ true → has p (reach n) ≡ true
  in_reach n p h =
      let low = above_in s sound n p c h in
      has_filter (λ q. is_above s n q c) all p ∙ ap (λ b. b && is_above s n p c) (range_has 0 (length s.checkables) p (omega arith) (omega (arith, low))) ∙ h

  from_reach : (n p : ℕ) → has p (reach n) ≡ true → is_above s n p c ≡ true
  from_reach n p h = (and_parts (has p all) (is_above s n p c) (sym (has_filter (λ q. is_above s n q c) all p) ∙ h)).1

  abbrev is_closed : ℕ → Bool
  is_closed n = list_all (λ q. is_above s n q c) (parents_of s c) && list_all (λ p. list_all (λ q. is_above s n q c) (parents_of s p)) (reach n)

  closed_has : (n : ℕ) → is_closed n ≡ true → (k p : ℕ) → is_above s k p c ≡ true → is_above s n p c ≡ true
  closed_has n h k p up =
      let both = and_parts (list_all (λ q. is_above s n q c) (parents_of s c)) (list_all (λ p. list_all (λ q. is_above s n q c) (parents_of s p)) (reach n)) h in
      from_reach n p
      (all_found s (reach n)
      (λ x q there next. in_reach n q (all_has (λ r. is_above s n r c) (parents_of s x) q (all_has (λ y. list_all (λ r. is_above s n r c) (parents_of s y)) (reach n) x both.1 there) next))
      k p c (λ q next. in_reach n q (all_has (λ r. is_above s n r c) (parents_of s c) q both.0 next)) up)

  grows : (n q : ℕ) → is_above s n q c ≡ false → is_above s (suc n) q c ≡ true → length (reach n) + 1 ≤ length (reach (suc n))
  grows n q out into =
      let low = above_in s sound (suc n) q c into in
      one_fewer (λ p. is_above s n p c) (λ p. is_above s (suc n) p c) (λ p. more_steps s n p c) q out into all (range_has 0 (length s.checkables) q (omega arith) (omega (arith, low)))

  open_grows : (n : ℕ) → is_closed n ≡ false → length (reach n) + 1 ≤ length (reach (suc n))
  open_grows n h = by (list_all (λ q. is_above s n q c) (parents_of s c)) refl h
    where
      far : (p : ℕ) × (has p (reach n) ≡ true) × (list_all (λ q. is_above s n q c) (parents_of s p) ≡ false) → length (reach n) + 1 ≤ length (reach (suc n))
      far (p, there, some) =
          let found = not_all (λ q. is_above s n q c) (parents_of s p) some in
          grows n found.0 found.2 (step_up s p found.0 n c (from_reach n p there) found.1)

      by : (b : Bool) → list_all (λ q. is_above s n q c) (parents_of s c) ≡ b → (b && list_all (λ p. list_all (λ q. is_above s n q c) (parents_of s p)) (reach n)) ≡ false → length (reach n) + 1 ≤ length (reach (suc n))
      by false e k = let found = not_all (λ q. is_above s n q c) (parents_of s c) e in grows n found.0 found.2 (one_step s n found.0 c found.1)
      by true e k = far (not_all (λ p. list_all (λ q. is_above s n q c) (parents_of s p)) (reach n) k)

  data Progress (n : ℕ) : Type 0 where
    done : (m : ℕ) → m ≤ n → is_closed m ≡ true → Progress n
    full : n ≤ length (reach n) → Progress n

  progress : (n : ℕ) → Progress n
  progress zero = full (omega arith)
  progress (suc n) = by (progress n)
    where
      last : n ≤ length (reach n) → (b : Bool) → is_closed n ≡ b → Progress (suc n)
      last k true e = done n (omega arith) e
      last k false e = let more = open_grows n e in full (omega (arith, k, more))

      by : Progress n → Progress (suc n)
      by (done m low e) = done m (omega (arith, low)) e
      by (full k) = last k (is_closed n) refl

  pub bounded : (k p : ℕ) → is_above s k p c ≡ true → is_above s (length s.checkables) p c ≡ true
  bounded k p h = by (progress (length s.checkables))
    where
      by : Progress (length s.checkables) → is_above s (length s.checkables) p c ≡ true
      by (done m low e) =
          let same : (length s.checkables - m) + m ≡ length s.checkables = omega (arith, low) in
          subst (λ n. is_above s n p c ≡ true) same (steps_to s m (length s.checkables - m) p c (closed_has m e k p h))
      by (full enough) =
          let low = above_in s sound k p c h in
          let many = range_length 0 (length s.checkables) in
          all_kept (λ q. is_above s (length s.checkables) q c) all p (omega (arith, enough, many)) (range_has 0 (length s.checkables) p (omega arith) (omega (arith, low)))

-- ---- the dependencies on a cycle

module _ (s : PlainSite) (sound : HasParents s) where
  abbrev turns : DependSpec → Bool
  turns = is_turning s

  on_cycle : (d : DependSpec) → turns d ≡ true → IsOnCycle s d
  on_cycle d h = by (or_cases (nat_eq d.child d.parent) (is_above s (length s.checkables) d.child d.parent) h)
    where
      by : (nat_eq d.child d.parent ≡ true) ⊎ (is_above s (length s.checkables) d.child d.parent ≡ true) → IsOnCycle s d
      by (inl e) = inl (eqb-true d.child d.parent e)
      by (inr e) = inr (length s.checkables, e)

  turns_then : (d : DependSpec) → IsOnCycle s d → turns d ≡ true
  turns_then d (inl e) = or_left (nat_eq d.child d.parent) (is_above s (length s.checkables) d.child d.parent) (eq-eqb d.child d.parent e)
  turns_then d (inr (steps, e)) = or_right (nat_eq d.child d.parent) (is_above s (length s.checkables) d.child d.parent) (bounded s sound d.parent steps d.child e)

  abbrev places : List ℕ
  places = places_of turns 0 s.depends

  its_dependency : (k : ℕ) → Contains places k → (d : DependSpec) × (slice_get s.depends k ≡ Some d) × IsOnCycle s d
  its_dependency k h =
      let (i, d, e, at, q) = places_own turns 0 s.depends k (has_of_contains k places h) in
      let same : i ≡ k = omega (arith, e) in
      (d, ap (slice_get s.depends) (sym same) ∙ at, on_cycle d q)

  named : (k : ℕ) → (d : DependSpec) × (slice_get s.depends k ≡ Some d) × IsOnCycle s d → Contains places k
  named k (d, at, on) =
      let none : 0 + k ≡ k = omega arith in
      contains_of_has k places (ap (λ z. has z places) (sym none) ∙ places_has turns 0 s.depends k d at (turns_then d on))

  -- the dependencies on a cycle are these
  pub are_turning : AreTurning s (turning s)
  unfolding turning
  are_turning = record { rising = places_rise turns 0 s.depends; all = λ k. (its_dependency k, named k) }
