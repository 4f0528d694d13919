-- The lists of a graph are the ancestors, and without a cycle a parent has fewer than its child.
use Rattle.std.proofs.Common.{◌≡◌, ◌<◌, ◌≤◌, ◌&&◌, ◌||◌, ℕ, zero, suc, List, [], ◌∷◌, ◌++◌, length, map, filter, get_or, slice_get, nat_eq, cond, ◌⊎◌, inl, inr, Bool, true, false, Option, None, Some, All, AllPairs, refl, sym, ap, ◌∙◌, subst, arith, eqb-true, eq-eqb, length-append}
use Rattle.std.specs.Option.{IsSomeAnd}
use Rattle.std.proofs.lemmas.List.Elements.{filter_agree}
use Rattle.std.proofs.lemmas.List.Kept.{AllPairs-filter}
use Rattle.std.proofs.lemmas.List.Folds.{list_any-append}
use Rattle.std.proofs.lemmas.Bool.{and_parts, and_from, cases_lt, or_cases, or_left}
use Rattle.site_model.specs.PlainSite.{PlainSite, PlainCheck}
use Rattle.site_model.specs.Sound.{AreDistinct, AreHostsThenServices, IsIndex}
use Rattle.site_model.specs.declared.depend_spec.DependSpec.{DependSpec}
use Rattle.run_meaning.proofs.Lists.{get_front, length_from_on}
use Rattle.run_meaning.specs.Reachability.{ancestors, host_in, is_above, parents_of}
use Rattle.run_meaning.specs.Turns.{from_on, of_index}
use Rattle.depend_graph.specs.Cycles.{IsOnCycle}
use Rattle.depend_graph.specs.Graph.{HasOrder}
use Rattle.depend_graph.specs.Parents.{has, given, HasParents, IsAbove}
use Rattle.depend_graph.specs.Search.{AreAllAbove}
use Rattle.depend_graph.proofs.Above.{above_parent, above_up, first_step, parent_above}
use Rattle.depend_graph.proofs.Ancestors.{ancestor_in, has_filter, in_range, range_has}
use Rattle.depend_graph.proofs.Rising.{range_rises, rising_same}
use Rattle.depend_graph.proofs.Has.{false_from, has_at, never_both, place_of, same_tests, stands_at}
use Rattle.depend_graph.proofs.Rows.{row_beyond}

-- Parents are in range.

-- the elements of what dependencies give are their parents
pub given_own : (c : ℕ) (ds : List DependSpec) (q : ℕ) → has q (given c ds) ≡ true → (k : ℕ) × (d : DependSpec) × (slice_get ds k ≡ Some d) × (d.child ≡ c) × (d.parent ≡ q)
given_own c [] q h = absurd cc
given_own c (d ∷ ds) q h = by (given_own c ds q) (nat_eq d.child c) refl h
  where
    later : (k : ℕ) × (e : DependSpec) × (slice_get ds k ≡ Some e) × (e.child ≡ c) × (e.parent ≡ q) → (k : ℕ) × (e : DependSpec) × (slice_get (d ∷ ds) k ≡ Some e) × (e.child ≡ c) × (e.parent ≡ q)
    later (k, e, at, child, parent) = (suc k, e, at, child, parent)

    by : (has q (given c ds) ≡ true → (k : ℕ) × (e : DependSpec) × (slice_get ds k ≡ Some e) × (e.child ≡ c) × (e.parent ≡ q)) → (t : Bool) → nat_eq d.child c ≡ t
        → has q (map (λ (e : DependSpec). e.parent) (cond t (d ∷ filter (λ (e : DependSpec). nat_eq e.child c) ds) (filter (λ (e : DependSpec). nat_eq e.child c) ds))) ≡ true
        → (k : ℕ) × (e : DependSpec) × (slice_get (d ∷ ds) k ≡ Some e) × (e.child ≡ c) × (e.parent ≡ q)
    by f true t h = one (or_cases (nat_eq q d.parent) (has q (given c ds)) h)
      where
        one : (nat_eq q d.parent ≡ true) ⊎ (has q (given c ds) ≡ true) → (k : ℕ) × (e : DependSpec) × (slice_get (d ∷ ds) k ≡ Some e) × (e.child ≡ c) × (e.parent ≡ q)
        one (inl e) = (0, d, refl, eqb-true d.child c t, sym (eqb-true q d.parent e))
        one (inr e) = later (f e)
    by f false t h = later (f h)

-- a parent is the host, or a dependency's
pub parent_own : (s : PlainSite) (c q : ℕ) → has q (parents_of s c) ≡ true
    → (has q (host_in (slice_get s.checkables c)) ≡ true) ⊎ ((k : ℕ) × (d : DependSpec) × (slice_get s.depends k ≡ Some d) × (d.child ≡ c) × (d.parent ≡ q))
parent_own s c q h = by (or_cases (has q (host_in (slice_get s.checkables c))) (has q (given c s.depends)) (sym (list_any-append (nat_eq q) (host_in (slice_get s.checkables c)) (given c s.depends)) ∙ h))
  where
    by : (has q (host_in (slice_get s.checkables c)) ≡ true) ⊎ (has q (given c s.depends) ≡ true)
        → (has q (host_in (slice_get s.checkables c)) ≡ true) ⊎ ((k : ℕ) × (d : DependSpec) × (slice_get s.depends k ≡ Some d) × (d.child ≡ c) × (d.parent ≡ q))
    by (inl e) = inl e
    by (inr e) = inr (given_own c s.depends q e)

-- the host of a checkable: which one it is
host_own : (r : Option PlainCheck) (q : ℕ) → has q (host_in r) ≡ true → (x : PlainCheck) × (r ≡ Some x) × (x.host ≡ Some q)
host_own None q h = absurd cc
host_own (Some x) q h = by x.host refl h
  where
    by : (o : Option ℕ) → x.host ≡ o → has q (host_in (Some (record x { host = o }))) ≡ true → (y : PlainCheck) × (Some x ≡ Some y) × (y.host ≡ Some q)
    by None e h = absurd cc
    by (Some g) e h = one (or_cases (nat_eq q g) false h)
      where
        one : (nat_eq q g ≡ true) ⊎ (false ≡ true) → (y : PlainCheck) × (Some x ≡ Some y) × (y.host ≡ Some q)
        one (inl k) = (x, refl, e ∙ ap Some (sym (eqb-true q g k)))
        one (inr k) = absurd cc

all_get : {A : Type 0} (P : A → Type 0) (xs : List A) (k : ℕ) (x : A) → slice_get xs k ≡ Some x → All P xs → P x
all_get P [] k x at h = absurd cc
all_get P (y ∷ ys) zero x at h = let e : y ≡ x = cc in subst P e (h 0 x (omega arith))
all_get P (y ∷ ys) (suc k) x at h = all_get P ys k x at (λ j d l. h (suc j) d (omega (arith, l)))

get_back : {A : Type 0} (xs ys : List A) (k : ℕ) (x : A) → length xs ≤ k → slice_get (xs ++ ys) k ≡ Some x → (j : ℕ) × (slice_get ys j ≡ Some x)
get_back [] ys k x h at = (k, at)
get_back (z ∷ xs) ys zero x h at = absurd (omega (arith, h))
get_back (z ∷ xs) ys (suc k) x h at = get_back xs ys k x (omega (arith, h)) at

module _ (s : PlainSite) (sound : HasParents s) where
  abbrev count : ℕ
  count = length s.checkables

  abbrev in_order : AreHostsThenServices s.checkables
  in_order = sound.in_order

  -- a host stands among the hosts, and its services behind them
  host_of : (c q : ℕ) → has q (host_in (slice_get s.checkables c)) ≡ true → (q < length in_order.hosts) × (length in_order.hosts ≤ c)
  host_of c q h = by (host_own (slice_get s.checkables c) q h)
    where
      at_sum : (x : PlainCheck) → slice_get s.checkables c ≡ Some x → slice_get (in_order.hosts ++ in_order.services) c ≡ Some x
      at_sum x at = ap (λ cs. slice_get cs c) (sym in_order.in_order) ∙ at

      index : (o : Option ℕ) → o ≡ Some q → IsSomeAnd o (IsIndex (length in_order.hosts)) → q < length in_order.hosts
      index None e f = absurd cc
      index (Some g) e f = let same : g ≡ q = cc in subst (λ z. z < length in_order.hosts) same f

      on : (x : PlainCheck) → slice_get s.checkables c ≡ Some x → x.host ≡ Some q → (c < length in_order.hosts) ⊎ (length in_order.hosts ≤ c) → (q < length in_order.hosts) × (length in_order.hosts ≤ c)
      on x at host (inl l) =
          let none = all_get (λ (x : PlainCheck). x.host ≡ None) in_order.hosts c x (sym (get_front in_order.hosts in_order.services c l) ∙ at_sum x at) in_order.hosts_have_none in
          let e : None ≡ Some q = sym none ∙ host in absurd cc
      on x at host (inr g) =
          let found = get_back in_order.hosts in_order.services c x g (at_sum x at) in
          (index x.host host (all_get (λ (x : PlainCheck). IsSomeAnd x.host (IsIndex (length in_order.hosts))) in_order.services found.0 x found.1 in_order.services_have_one), g)

      by : (x : PlainCheck) × (slice_get s.checkables c ≡ Some x) × (x.host ≡ Some q) → (q < length in_order.hosts) × (length in_order.hosts ≤ c)
      by (x, at, host) = on x at host (cases_lt c (length in_order.hosts))

  pub parent_in : (c q : ℕ) → has q (parents_of s c) ≡ true → q < count
  parent_in c q h = by (parent_own s c q h)
    where
      by : (has q (host_in (slice_get s.checkables c)) ≡ true) ⊎ ((k : ℕ) × (d : DependSpec) × (slice_get s.depends k ≡ Some d) × (d.child ≡ c) × (d.parent ≡ q)) → q < count
      by (inl e) = let r = host_of c q e in let l = ap length in_order.in_order ∙ length-append in_order.hosts in_order.services in let f = r.0 in omega (arith, l, f)
      by (inr (k, d, at, child, parent)) = subst (λ z. z < count) parent (all_get (λ (d : DependSpec). d.parent < count) s.depends k d at sound.parents)

  pub above_in : (n p c : ℕ) → is_above s n p c ≡ true → p < count
  above_in zero p c h = absurd cc
  above_in (suc n) p c h = by (above_in n p) (first_step s n p c h)
    where
      by : ((q : ℕ) → is_above s n p q ≡ true → p < count) → (q : ℕ) × (has q (parents_of s c) ≡ true) × ((q ≡ p) ⊎ (is_above s n p q ≡ true)) → p < count
      by f (q, up, inl e) = subst (λ z. z < count) e (parent_in c q up)
      by f (q, up, inr more) = f q more

  -- Without a dependency on a cycle nothing stands above itself.

  module _ (free : All (λ (d : DependSpec). ¬ IsOnCycle s d) s.depends) where
    no_dependency : (k : ℕ) (d : DependSpec) → slice_get s.depends k ≡ Some d → IsOnCycle s d → ⊥
    no_dependency k d at = all_get (λ (d : DependSpec). ¬ IsOnCycle s d) s.depends k d at free

    -- from a parent back to the child
    not_back : (c q : ℕ) → has q (parents_of s c) ≡ true → (q ≡ c) ⊎ IsAbove s q c → ⊥
    not_back c q up back = by (parent_own s c q up)
      where
        by : (has q (host_in (slice_get s.checkables c)) ≡ true) ⊎ ((k : ℕ) × (d : DependSpec) × (slice_get s.depends k ≡ Some d) × (d.child ≡ c) × (d.parent ≡ q)) → ⊥
        by (inr (k, d, at, child, parent)) = no_dependency k d at (on back)
          where
            on : (q ≡ c) ⊎ IsAbove s q c → IsOnCycle s d
            on (inl e) = inl (child ∙ sym e ∙ sym parent)
            on (inr (n, a)) = inr (n, subst (λ z. is_above s n z d.parent ≡ true) (sym child) (subst (λ z. is_above s n c z ≡ true) (sym parent) a))
        by (inl h) = of_service back
          where
            place : (q < length in_order.hosts) × (length in_order.hosts ≤ c)
            place = host_of c q h

            -- the first step from a host is a dependency's
            step : (n : ℕ) → (r : ℕ) × (has r (parents_of s q) ≡ true) × ((r ≡ c) ⊎ (is_above s n c r ≡ true)) → ⊥
            step n (r, up', more) = from (parent_own s q r up')
              where
                reaches : IsAbove s r q
                reaches = to more
                  where
                    to : (r ≡ c) ⊎ (is_above s n c r ≡ true) → IsAbove s r q
                    to (inl e) = let a = parent_above s c q up in (a.0, subst (λ z. is_above s a.0 q z ≡ true) (sym e) a.1)
                    to (inr a) = above_up s r c q (n, a) up

                from : (has r (host_in (slice_get s.checkables q)) ≡ true) ⊎ ((k : ℕ) × (d : DependSpec) × (slice_get s.depends k ≡ Some d) × (d.child ≡ q) × (d.parent ≡ r)) → ⊥
                from (inl e) = let p = host_of q r e in let f = p.1 in let g = place.0 in omega (arith, f, g)
                from (inr (k, d, at, child, parent)) =
                    no_dependency k d at (inr (reaches.0, subst (λ z. is_above s reaches.0 z d.parent ≡ true) (sym child) (subst (λ z. is_above s reaches.0 q z ≡ true) (sym parent) reaches.1)))

            of_service : (q ≡ c) ⊎ IsAbove s q c → ⊥
            of_service (inl e) = let f = place.0 in let g = place.1 in omega (arith, e, f, g)
            of_service (inr (zero, a)) = absurd cc
            of_service (inr (suc n, a)) = step n (first_step s n c q a)

    pub not_above_itself : (c : ℕ) → IsAbove s c c → ⊥
    not_above_itself c (zero, a) = absurd cc
    not_above_itself c (suc n, a) = by (first_step s n c c a)
      where
        by : (q : ℕ) × (has q (parents_of s c) ≡ true) × ((q ≡ c) ⊎ (is_above s n c q ≡ true)) → ⊥
        by (q, up, inl e) = not_back c q up (inl e)
        by (q, up, inr more) = not_back c q up (inr (n, more))

-- What passes one test and not another makes the longer list.

filter_most : (t u : ℕ → Bool) (xs : List ℕ) → ((x : ℕ) → t x ≡ true → u x ≡ true) → length (filter t xs) ≤ length (filter u xs)
filter_most t u [] h = omega arith
filter_most t u (x ∷ xs) h = by (t x) refl (u x) refl (filter_most t u xs h)
  where
    by : (a : Bool) → t x ≡ a → (b : Bool) → u x ≡ b → length (filter t xs) ≤ length (filter u xs) → length (cond a (x ∷ filter t xs) (filter t xs)) ≤ length (cond b (x ∷ filter u xs) (filter u xs))
    by true p true q l = omega (arith, l)
    by true p false q l = absurd (never_both (h x p) q)
    by false p true q l = omega (arith, l)
    by false p false q l = l

filter_fewer : (t u : ℕ → Bool) (xs : List ℕ) (y : ℕ) → ((x : ℕ) → t x ≡ true → u x ≡ true) → has y xs ≡ true → t y ≡ false → u y ≡ true → length (filter t xs) < length (filter u xs)
filter_fewer t u [] y h there fails passes = absurd cc
filter_fewer t u (x ∷ xs) y h there fails passes = by (λ e. filter_fewer t u xs y h e fails passes) (or_cases (nat_eq y x) (has y xs) there)
  where
    step : (a : Bool) → t x ≡ a → (b : Bool) → u x ≡ b → length (filter t xs) < length (filter u xs) → length (cond a (x ∷ filter t xs) (filter t xs)) < length (cond b (x ∷ filter u xs) (filter u xs))
    step true p true q l = omega (arith, l)
    step true p false q l = absurd (never_both (h x p) q)
    step false p true q l = omega (arith, l)
    step false p false q l = l

    by : (has y xs ≡ true → length (filter t xs) < length (filter u xs)) → (nat_eq y x ≡ true) ⊎ (has y xs ≡ true) → length (filter t (x ∷ xs)) < length (filter u (x ∷ xs))
    by rec (inl e) =
        let same = eqb-true y x e in
        let tx : t x ≡ false = ap t (sym same) ∙ fails in
        let ux : u x ≡ true = ap u (sym same) ∙ passes in
        let l = filter_most t u xs h in
        let f = ap (λ a. length (cond a (x ∷ filter t xs) (filter t xs))) tx in
        let g = ap (λ a. length (cond a (x ∷ filter u xs) (filter u xs))) ux in
        omega (arith, l, f, g)
    by rec (inr e) = step (t x) refl (u x) refl (rec e)

filter_all : (xs : List ℕ) → length (filter (λ _. true) xs) ≡ length xs
filter_all [] = refl
filter_all (x ∷ xs) = ap suc (filter_all xs)

-- The lists of a graph.

module _ (s : PlainSite) (sound : HasParents s) (ancs : List (List ℕ)) (above : AreAllAbove s ancs) (rising : (c : ℕ) → AllPairs (λ j k. j < k) (of_index c ancs)) where
  abbrev all : List ℕ
  all = from_on 0 (length s.checkables)

  -- whether one stands above another, by the lists
  abbrev stands : ℕ → ℕ → Bool
  stands c p = has p (of_index c ancs)

  in_all : (n : ℕ) → n < length s.checkables → has n all ≡ true
  in_all n l = range_has 0 (length s.checkables) n (omega arith) (omega (arith, l))

  stands_above : (c p : ℕ) → c < length s.checkables → stands c p ≡ true → IsAbove s c p
  stands_above c p l h = ((above.above c l).above p).0 h

  above_stands : (c p : ℕ) → c < length s.checkables → IsAbove s c p → stands c p ≡ true
  above_stands c p l h = ((above.above c l).above p).1 h

  ancs_is : (c : ℕ) → c < length s.checkables → of_index c ancs ≡ filter (stands c) all
  ancs_is c l = rising_same (of_index c ancs) (filter (stands c) all) (rising c) (AllPairs-filter (λ j k. j < k) (stands c) all (range_rises 0 (length s.checkables))) (λ p.
      same_tests (stands c p) (has p (filter (stands c) all))
      (λ h. let a = stands_above c p l h in has_filter (stands c) all p ∙ and_from (has p all) (stands c p) (in_all p (above_in s sound a.0 p c a.1)) h)
      (λ h. (and_parts (has p all) (stands c p) (sym (has_filter (stands c) all p) ∙ h)).1))

  module _ (free : All (λ (d : DependSpec). ¬ IsOnCycle s d) s.depends) where
    abbrev rank : ℕ → ℕ
    rank c = length (of_index c ancs)

    not_self : (c : ℕ) → c < length s.checkables → stands c c ≡ false
    not_self c l = false_from (stands c c) (λ h. not_above_itself s sound free c (stands_above c c l h))

    rank_falls : (c q : ℕ) → c < length s.checkables → has q (parents_of s c) ≡ true → rank q < rank c
    rank_falls c q l up =
        let inside = parent_in s sound c q up in
        let h = filter_fewer (stands q) (stands c) all q
        (λ p h. above_stands c p l (let a = stands_above q p inside h in (suc a.0, above_parent s a.0 p c q up a.1)))
        (in_all q inside) (not_self q inside) (above_stands c q l (parent_above s c q up)) in
        let e = ap length (ancs_is q inside) in
        let f = ap length (ancs_is c l) in
        omega (arith, h, e, f)

    pub rank_small : (c : ℕ) → c < length s.checkables → rank c < length s.checkables
    rank_small c l =
        let h = filter_fewer (stands c) (λ _. true) all c (λ p h. refl) (in_all c l) (not_self c l) refl in
        let e = ap length (ancs_is c l) in
        let f = filter_all all in
        let g = length_from_on 0 (length s.checkables) in
        omega (arith, h, e, f, g)

    -- no way up is longer than there are ancestors
    short : (n p c k : ℕ) → c < length s.checkables → rank c ≤ k → is_above s n p c ≡ true → is_above s k p c ≡ true
    short zero p c k l h a = absurd cc
    short (suc n) p c k l h a = by (λ q i m g. short n p q m i g) (first_step s n p c a) k h
      where
        by : ((q : ℕ) → q < length s.checkables → (m : ℕ) → rank q ≤ m → is_above s n p q ≡ true → is_above s m p q ≡ true)
            → (q : ℕ) × (has q (parents_of s c) ≡ true) × ((q ≡ p) ⊎ (is_above s n p q ≡ true)) → (k : ℕ) → rank c ≤ k → is_above s k p c ≡ true
        by rec (q, up, more) zero h = let f = rank_falls c q l up in absurd (omega (arith, f, h))
        by rec (q, up, inl e) (suc k) h =
            let place = place_of q (parents_of s c) up in
            has_at (λ r. nat_eq r p || is_above s k p r) (parents_of s c) place.0 0 place.1
            (or_left (nat_eq (get_or (parents_of s c) place.0 0) p) (is_above s k p (get_or (parents_of s c) place.0 0)) (eq-eqb (get_or (parents_of s c) place.0 0) p (place.2 0 ∙ e)))
        by rec (q, up, inr more) (suc k) h =
            let f = rank_falls c q l up in
            above_parent s k p c q up (rec q (parent_in s sound c q up) k (omega (arith, f, h)) more)

    pub ancs_are : (c : ℕ) → c < length s.checkables → of_index c ancs ≡ ancestors s c
    ancs_are c l =
        ancs_is c l ∙ filter_agree (stands c) (λ p. is_above s (length s.checkables) p c)
        (λ p. same_tests (stands c p) (is_above s (length s.checkables) p c)
        (λ h. let a = stands_above c p l h in short a.0 p c (length s.checkables) l (let r = rank_small c l in omega (arith, r)) a.1)
        (λ h. above_stands c p l (length s.checkables, h))) all

    pub ordered : HasOrder s
    ordered = record {
      parents = λ c q l up. ap (has q) (sym (ancs_are c l)) ∙ above_stands c q l (parent_above s c q up);
      further = λ c p q l h up. ap (has q) (sym (ancs_are c l)) ∙ above_stands c q l (above_up s c p q (stands_above c p l (ap (has p) (ancs_are c l) ∙ h)) up);
      fewer = λ c q l up.
          let h = rank_falls c q l up in
          let e = ap length (ancs_are q (parent_in s sound c q up)) in
          let f = ap length (ancs_are c l) in
          omega (arith, h, e, f);
      few = λ c l. let h = rank_small c l in let e = ap length (ancs_are c l) in omega (arith, h, e);
    }
