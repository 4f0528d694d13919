-- Where no dependency is on a cycle, a checkable depends on others of the site, on each once, and not on itself.
use Rattle.std.proofs.Common.{◌≡◌, ◌<◌, ◌≤◌, ◌+◌, ◌-◌, ◌⊎◌, inl, inr, ℕ, zero, suc, Bool, true, false, List, [], ◌∷◌, ◌++◌, All, IsSomeAnd, length, nat_eq, slice_get, Option, Some, None, refl, sym, ap, ◌∙◌, subst, arith, eqb-true}
use Rattle.std.proofs.lemmas.Bool.{cases_lt, or_cases}
use Rattle.depend_graph.specs.Cycles.{IsOnCycle}
use Rattle.depend_graph.specs.Parents.{has, IsAbove}
use Rattle.depend_graph.proofs.Above.{above_up, first_step, parent_above}
use Rattle.depend_graph.proofs.Building.{parent_own}
use Rattle.site_model.specs.PlainSite.{PlainCheck, PlainSite}
use Rattle.site_model.specs.Sound.{AreHostsThenServices, IsIndex, IsSound}
use Rattle.site_model.specs.declared.depend_spec.DependSpec.{DependSpec}
use Rattle.run_meaning.specs.Meaning.{rules_of}
use Rattle.run_meaning.specs.Reachability.{ancestors, host_in, is_above, parents_of}
use Rattle.run_meaning.specs.Turns.{from_on}
use Rattle.run_meaning.proofs.Lists.{get_front}
use Rattle.run_meaning.proofs.Parts.{get_kept}
use Rattle.audit_laws.specs.Retaken.{AreOthers}
use Rattle.audit_laws.proofs.AskedLines.{all_at}
use Rattle.audit_laws.proofs.Places.{from_at, get_behind, rises_kept, Rises}

-- ---- hosts

host_is : (x : PlainCheck) (o : Option ℕ) (q : ℕ) → x.host ≡ o → has q (host_in (Some (record x { host = o }))) ≡ true → x.host ≡ Some q
host_is x None q e h = absurd cc
host_is x (Some g) q e h = one (or_cases (nat_eq q g) false h)
  where
    one : (nat_eq q g ≡ true) ⊎ (false ≡ true) → x.host ≡ Some q
    one (inl k) = e ∙ ap Some (sym (eqb-true q g k))
    one (inr k) = absurd cc

each_is : {A : Type 0} (P : A → Type 0) (xs : List A) (k : ℕ) (x : A) → slice_get xs k ≡ Some x → All P xs → P x
each_is P [] k x at h = absurd cc
each_is P (y ∷ ys) zero x at h = let e : y ≡ x = cc in subst P e (h 0 x (omega arith))
each_is P (y ∷ ys) (suc k) x at h = each_is P ys k x at (λ j d l. h (suc j) d (omega (arith, l)))

-- a host stands among the hosts, and its services behind them
host_of : (cs : List PlainCheck) (o : AreHostsThenServices cs) (c q : ℕ) → has q (host_in (slice_get cs c)) ≡ true → (q < length o.hosts) × (length o.hosts ≤ c)
host_of cs o c q h = by (slice_get cs c) refl h
  where
    index : (r : Option ℕ) → r ≡ Some q → IsSomeAnd r (IsIndex (length o.hosts)) → q < length o.hosts
    index None e f = absurd cc
    index (Some g) e f = let same : g ≡ q = cc in subst (λ z. z < length o.hosts) same f

    on : (x : PlainCheck) → slice_get cs c ≡ Some x → x.host ≡ Some q → (c < length o.hosts) ⊎ (length o.hosts ≤ c) → (q < length o.hosts) × (length o.hosts ≤ c)
    on x at host (inl l) =
        let none = each_is (λ (x : PlainCheck). x.host ≡ None) o.hosts c x (sym (get_front o.hosts o.services c l) ∙ (ap (λ ds. slice_get ds c) (sym o.in_order) ∙ at)) o.hosts_have_none in
        let e : None ≡ Some q = sym none ∙ host in absurd cc
    on x at host (inr g) =
        let n = c - length o.hosts in
        let split : length o.hosts + n ≡ c = omega (arith, g) in
        let there = sym (get_behind o.hosts o.services n) ∙ (ap (slice_get (o.hosts ++ o.services)) split ∙ (ap (λ ds. slice_get ds c) (sym o.in_order) ∙ at)) in
        (index x.host host (each_is (λ (x : PlainCheck). IsSomeAnd x.host (IsIndex (length o.hosts))) o.services n x there o.services_have_one), g)

    by : (r : Option PlainCheck) → slice_get cs c ≡ r → has q (host_in r) ≡ true → (q < length o.hosts) × (length o.hosts ≤ c)
    by None at h = absurd cc
    by (Some x) at h = on x at (host_is x x.host q refl h) (cases_lt c (length o.hosts))

-- ---- no checkable stands above itself

module _ (s : PlainSite) (sound : IsSound s) (free : All (λ d. IsOnCycle s d → ⊥) s.depends) where
  abbrev IsDepend : ℕ → ℕ → Type 0
  IsDepend c q = (k : ℕ) × (d : DependSpec) × (slice_get s.depends k ≡ Some d) × (d.child ≡ c) × (d.parent ≡ q)

  -- no way leads back to a dependency's child
  no_way_back : (c q : ℕ) → IsDepend c q → (q ≡ c) ⊎ IsAbove s q c → ⊥
  no_way_back c q (k, d, at, child, parent) (inl same) = each_is (λ d. IsOnCycle s d → ⊥) s.depends k d at free (inl (child ∙ (sym same ∙ sym parent)))
  no_way_back c q (k, d, at, child, parent) (inr above) =
      each_is (λ d. IsOnCycle s d → ⊥) s.depends k d at free (inr (subst (λ p. IsAbove s p d.child) (sym parent) (subst (IsAbove s q) (sym child) above)))

  abbrev upward : ℕ → ℕ → Type 0
  upward c q = (has q (host_in (slice_get s.checkables c)) ≡ true) ⊎ IsDepend c q

  from_host : (c q : ℕ) → has q (host_in (slice_get s.checkables c)) ≡ true → has q (parents_of s c) ≡ true → (steps : ℕ) → is_above s steps c q ≡ true → ⊥
  from_host c q host up zero h = absurd cc
  from_host c q host up (suc steps) h = by (first_step s steps c q h)
    where
      on : (r : ℕ) → upward q r → (r ≡ c) ⊎ (is_above s steps c r ≡ true) → ⊥
      on r (inl other) rest = let a = host_of s.checkables sound.in_order c q host in let b = host_of s.checkables sound.in_order q r other in let f = a.0 in let g = b.1 in omega (arith, f, g)
      on r (inr d) (inl same) = no_way_back q r d (inr (subst (λ z. IsAbove s z q) (sym same) (parent_above s c q up)))
      on r (inr d) (inr above) = no_way_back q r d (inr (above_up s r c q (steps, above) up))

      by : (r : ℕ) × (has r (parents_of s q) ≡ true) × ((r ≡ c) ⊎ (is_above s steps c r ≡ true)) → ⊥
      by (r, further, rest) = on r (parent_own s q r further) rest

  not_own : (c steps : ℕ) → is_above s steps c c ≡ true → ⊥
  not_own c zero h = absurd cc
  not_own c (suc steps) h = by (first_step s steps c c h)
    where
      on : (q : ℕ) → has q (parents_of s c) ≡ true → upward c q → (q ≡ c) ⊎ (is_above s steps c q ≡ true) → ⊥
      on q up (inl host) (inl same) = let a = host_of s.checkables sound.in_order c q host in let f = a.0 in let g = a.1 in omega (arith, f, g, same)
      on q up (inl host) (inr above) = from_host c q host up steps above
      on q up (inr d) (inl same) = no_way_back c q d (inl same)
      on q up (inr d) (inr above) = no_way_back c q d (inr (steps, above))

      by : (q : ℕ) × (has q (parents_of s c) ≡ true) × ((q ≡ c) ⊎ (is_above s steps c q ≡ true)) → ⊥
      by (q, up, rest) = on q up (parent_own s c q up) rest

-- ---- ancestors

rising_once : (xs : List ℕ) (i j p : ℕ) → Rises xs → slice_get xs i ≡ Some p → slice_get xs j ≡ Some p → i ≡ j
rising_once [] i j p r h g = absurd cc
rising_once (x ∷ xs) zero zero p r h g = refl
rising_once (x ∷ xs) zero (suc j) p r h g = let e : x ≡ p = cc in let lt = all_at (λ y. x < y) xs j p r.0 g in absurd (omega (arith, e, lt))
rising_once (x ∷ xs) (suc i) zero p r h g = let e : x ≡ p = cc in let lt = all_at (λ y. x < y) xs i p r.0 h in absurd (omega (arith, e, lt))
rising_once (x ∷ xs) (suc i) (suc j) p r h g = ap suc (rising_once xs i j p r.1 h g)

pub are_others : (s : PlainSite) (holds : ℕ → ℕ → Bool) → IsSound s → All (λ d. IsOnCycle s d → ⊥) s.depends → AreOthers (rules_of s holds)
are_others s holds sound free = record {
  inside = inside;
  once = λ c i j p h g. rising_once (ancestors s c) i j p (rising c) h g;
  other = λ c i h. not_own s sound free c (length s.checkables) (get_kept (above c) (from_on 0 (length s.checkables)) i c h).2;
}
  where
    above : ℕ → ℕ → Bool
    above c p = is_above s (length s.checkables) p c

    inside : (c i p : ℕ) → slice_get (ancestors s c) i ≡ Some p → p < length s.checkables
    inside c i p h =
        let kept = get_kept (above c) (from_on 0 (length s.checkables)) i p h in
        let at = from_at 0 (length s.checkables) kept.0 p kept.1 in
        let e = at.0 in
        let lt = at.1 in
        omega (arith, e, lt)

    rising : (c : ℕ) → Rises (ancestors s c)
    rising c =
        rises_kept (above c) (from_on 0 (length s.checkables))
        (λ i j a b lt p q h g.
        let x = (from_at 0 (length s.checkables) i a p).0 in
        let y = (from_at 0 (length s.checkables) j b q).0 in
        omega (arith, lt, x, y))
