-- By the number of ancestors those come first that have fewer.
use Rattle.std.proofs.Common.{◌≡◌, ◌<◌, ◌≤◌, ◌+◌, ℕ, zero, suc, List, [], ◌∷◌, ◌++◌, length, drop, map, filter, slice_get, get_or, nat_eq, nat_lt, not, cond, Bool, true, false, ◌&&◌, Some, None, refl, sym, ap, ◌∙◌, subst, arith, eqb-true, eq-eqb, inl, inr, ◌⊎◌}
use Rattle.std.proofs.lemmas.Bool.Decides.{nat_tests}
use Rattle.std.proofs.lemmas.Option.{slice_get-get_or, slice_get_within}
use Rattle.std.specs.List.Sorted.{IsNonDecreasingBy, IsStableByKey, ties}
use Rattle.std.specs.Ordering.{is_lt, nat_cmp}
use Rattle.depend_graph.proofs.Above.{first_step}
use Rattle.depend_graph.proofs.Has.{place_of}
use Rattle.depend_graph.specs.Graph.{HasOrder}
use Rattle.depend_graph.specs.Parents.{has}
use Rattle.run_meaning.proofs.Lists.{get_map, get_of_map, keeps_none, within}
use Rattle.run_meaning.proofs.Parts.{apart, get_kept}
use Rattle.run_meaning.specs.Reachability.{ancestors, is_above, parents_of}
use Rattle.run_meaning.specs.Turns.{from_on}
use Rattle.site_model.specs.PlainSite.{PlainSite}
use Rattle.round_check.specs.declared.ordering.Ranked.{Ranked}
use Rattle.round_check.specs.declared.told.Told.{Told}
use Rattle.round_check.specs.Making.{AreParentsFirst, TellAlike, told_on}
use Rattle.round_check.specs.Ordered.{AreRanked, IsOrderOf, told_by_rank}
use Rattle.round_check.proofs.ToldLaws.{is_from}

module _ (s : PlainSite) (o : HasOrder s) where
  -- an ancestor is a checkable of the site
  ancestor_within : (c q : ℕ) → has q (ancestors s c) ≡ true → q < length s.checkables
  ancestor_within c q h =
      let found = place_of q (ancestors s c) h in
      let at : slice_get (ancestors s c) found.0 ≡ Some q = slice_get-get_or (ancestors s c) found.0 q found.1 ∙ ap Some (found.2 q) in
      let kept = get_kept (λ p. is_above s (length s.checkables) p c) (from_on 0 (length s.checkables)) found.0 q at in
      is_from (length s.checkables) kept.0 q kept.1

  above_fewer : (steps p c : ℕ) → c < length s.checkables → is_above s steps p c ≡ true → length (ancestors s p) < length (ancestors s c)
  above_fewer zero p c lt h = absurd cc
  above_fewer (suc steps) p c lt h = by (λ q. above_fewer steps p q) (first_step s steps p c h)
    where
      by : ((q : ℕ) → q < length s.checkables → is_above s steps p q ≡ true → length (ancestors s p) < length (ancestors s q)) → (q : ℕ) × (has q (parents_of s c) ≡ true) × ((q ≡ p) ⊎ (is_above s steps p q ≡ true)) → length (ancestors s p) < length (ancestors s c)
      by f (q, up, inl same) = subst (λ z. length (ancestors s z) < length (ancestors s c)) same (o.fewer c q lt up)
      by f (q, up, inr above) =
          let a = o.fewer c q lt up in
          let b = f q (ancestor_within c q (o.parents c q lt up)) above in
          omega (arith, a, b)

  pub ancestor_fewer : (c j p : ℕ) → c < length s.checkables → slice_get (ancestors s c) j ≡ Some p → length (ancestors s p) < length (ancestors s c)
  ancestor_fewer c j p lt h =
      let kept = get_kept (λ p. is_above s (length s.checkables) p c) (from_on 0 (length s.checkables)) j p h in
      above_fewer (length s.checkables) p c lt kept.2

-- Lists.

filter_filter : {A : Type 0} (test other : A → Bool) (xs : List A) → ((i : ℕ) (y : A) → slice_get xs i ≡ Some y → test y ≡ true → other y ≡ true) → filter test (filter other xs) ≡ filter test xs
filter_filter test other [] h = refl
filter_filter {A = A} test other (x ∷ xs) h = by (other x) refl (test x) refl (filter_filter test other xs (λ i. h (suc i)))
  where
    by : (b : Bool) → other x ≡ b → (t : Bool) → test x ≡ t → filter test (filter other xs) ≡ filter test xs → filter test (cond b (x ∷ filter other xs) (filter other xs)) ≡ cond t (x ∷ filter test xs) (filter test xs)
    by true p true q e = ap (λ z. cond z (x ∷ filter test (filter other xs)) (filter test (filter other xs))) q ∙ ap (λ z. x ∷ z) e
    by true p false q e = ap (λ z. cond z (x ∷ filter test (filter other xs)) (filter test (filter other xs))) q ∙ e
    by false p true q e = absurd (let w : false ≡ true = sym p ∙ h 0 x refl q in cc)
    by false p false q e = e

filter_map_of : {A B : Type 0} (f : A → B) (test : B → Bool) (xs : List A) → filter test (map f xs) ≡ map f (filter (λ x. test (f x)) xs)
filter_map_of f test [] = refl
filter_map_of f test (x ∷ xs) = by (test (f x)) (filter_map_of f test xs)
  where
    by : (b : Bool) → filter test (map f xs) ≡ map f (filter (λ x. test (f x)) xs) → cond b (f x ∷ filter test (map f xs)) (filter test (map f xs)) ≡ map f (cond b (x ∷ filter (λ x. test (f x)) xs) (filter (λ x. test (f x)) xs))
    by true e = ap (λ z. f x ∷ z) e
    by false e = e

get_drop : {A : Type 0} (i m : ℕ) (xs : List A) → slice_get (drop i xs) m ≡ slice_get xs (i + m)
get_drop zero m xs = let e : m ≡ 0 + m = omega arith in ap (slice_get xs) e
get_drop (suc i) m [] = refl
get_drop (suc i) m (x ∷ xs) = let e : suc i + m ≡ suc (i + m) = omega arith in get_drop i m xs ∙ sym (ap (slice_get (x ∷ xs)) e)

first_of : {A : Type 0} (test : A → Bool) (xs : List A) (y : A) (ys : List A) → filter test xs ≡ y ∷ ys → (i : ℕ) × (slice_get xs i ≡ Some y) × (test y ≡ true)
first_of test xs y ys h = get_kept test xs 0 y (ap (λ z. slice_get z 0) h)

abbrev less : Ranked → Ranked → Bool
less x y = is_lt (nat_cmp x.rank y.rank)

tie_so : (x y : Ranked) → x.rank ≡ y.rank → ties less x y ≡ true
tie_so x y h =
    let a : is_lt (nat_cmp x.rank y.rank) ≡ false = grind (arith, nat_tests, h) in
    let b : is_lt (nat_cmp y.rank x.rank) ≡ false = grind (arith, nat_tests, h) in
    ap (λ t. not t && not (less y x)) a ∙ ap (λ t. not t) b

module _ (s : PlainSite) (o : HasOrder s) (list order : List Ranked) (ranked : AreRanked s list) (sorted : IsNonDecreasingBy (λ x. x.rank) order) (stable : IsStableByKey (λ (x : Ranked). x.rank) nat_cmp list order) where
  -- what stands in the order stood in the list
  was : (i : ℕ) (x : Ranked) → slice_get order i ≡ Some x → (j : ℕ) × (slice_get list j ≡ Some x)
  was i x h = here (get_at_kept order i h)
    where
      get_at_kept : (xs : List Ranked) (i : ℕ) → slice_get xs i ≡ Some x → (m : ℕ) × (slice_get (filter (ties less x) xs) m ≡ Some x)
      get_at_kept [] i h = absurd cc
      get_at_kept (y ∷ xs) zero h =
          let e : y ≡ x = cc in
          (0, ap (λ z. slice_get (cond (ties less x z) (z ∷ filter (ties less x) xs) (filter (ties less x) xs)) 0) e ∙ ap (λ b. slice_get (cond b (x ∷ filter (ties less x) xs) (filter (ties less x) xs)) 0) (tie_so x x refl))
      get_at_kept (y ∷ xs) (suc i) h = by (ties less x y) (get_at_kept xs i h)
        where
          by : (b : Bool) → (m : ℕ) × (slice_get (filter (ties less x) xs) m ≡ Some x) → (m : ℕ) × (slice_get (cond b (y ∷ filter (ties less x) xs) (filter (ties less x) xs)) m ≡ Some x)
          by true (m, e) = (suc m, e)
          by false (m, e) = (m, e)

      here : (m : ℕ) × (slice_get (filter (ties less x) order) m ≡ Some x) → (j : ℕ) × (slice_get list j ≡ Some x)
      here (m, e) = let k = get_kept (ties less x) list m x (ap (λ z. slice_get z m) (sym (stable x)) ∙ e) in (k.0, k.1)

  still_ranked : AreRanked s order
  still_ranked = record {
    within = λ i x h. let w = was i x h in ranked.within w.0 x w.1;
    rank = λ i x h. let w = was i x h in ranked.rank w.0 x w.1;
  }

  abbrev on : ℕ → Ranked → Bool
  on c x = nat_eq x.told.checkable c

  -- those of one checkable tie
  tied : (c : ℕ) (x : Ranked) → x.rank ≡ length (ancestors s c) → (xs : List Ranked) → AreRanked s xs → (i : ℕ) (y : Ranked) → slice_get xs i ≡ Some y → on c y ≡ true → ties less x y ≡ true
  tied c x is xs are i y h q = tie_so x y (is ∙ sym (are.rank i y h ∙ ap (λ z. length (ancestors s z)) (eqb-true y.told.checkable c q)))

  by_tie : (c : ℕ) (x : Ranked) → x.rank ≡ length (ancestors s c) → filter (on c) order ≡ filter (on c) list
  by_tie c x is =
      sym (filter_filter (on c) (ties less x) order (tied c x is order still_ranked))
      ∙ ap (filter (on c)) (stable x)
      ∙ filter_filter (on c) (ties less x) list (tied c x is list ranked)

  same_on : (c : ℕ) → filter (on c) order ≡ filter (on c) list
  same_on c = by (filter (on c) order) refl (filter (on c) list) refl
    where
      rank_is : (xs : List Ranked) → AreRanked s xs → (y : Ranked) (ys : List Ranked) → filter (on c) xs ≡ y ∷ ys → y.rank ≡ length (ancestors s c)
      rank_is xs are y ys h =
          let f = first_of (on c) xs y ys h in
          are.rank f.0 y f.1 ∙ ap (λ z. length (ancestors s z)) (eqb-true y.told.checkable c f.2)

      by : (xs : List Ranked) → filter (on c) order ≡ xs → (ys : List Ranked) → filter (on c) list ≡ ys → filter (on c) order ≡ filter (on c) list
      by [] p [] q = p ∙ sym q
      by (x ∷ xs) p ys q = by_tie c x (rank_is order still_ranked x xs p)
      by [] p (y ∷ ys) q = by_tie c y (rank_is list ranked y ys q)

  alike : TellAlike (map told_by_rank order) (map told_by_rank list)
  alike c =
      filter_map_of told_by_rank (λ t. nat_eq t.checkable c) order
      ∙ ap (map told_by_rank) (same_on c)
      ∙ sym (filter_map_of told_by_rank (λ t. nat_eq t.checkable c) list)

  within_order : (i : ℕ) (t : Told) → slice_get (map told_by_rank order) i ≡ Some t → t.checkable < length s.checkables
  within_order i t h =
      let (x, at, is) = get_map told_by_rank order i t h in
      subst (λ (z : Told). z.checkable < length s.checkables) is (still_ranked.within i x at)

  get_is : (i : ℕ) (x : Ranked) → slice_get order i ≡ Some x → get_or order i x ≡ x
  get_is i x h =
      let e : Some (get_or order i x) ≡ Some x = sym (slice_get-get_or order i x (slice_get_within order i x h)) ∙ h in cc

  first : AreParentsFirst (ancestors s) (map told_by_rank order)
  first i j p t at above =
      let (x, here, is) = get_map told_by_rank order i t at in
      let lt = within_order i t at in
      let fewer = ancestor_fewer s o t.checkable j p lt above in
      let rank : x.rank ≡ length (ancestors s t.checkable) = still_ranked.rank i x here ∙ ap (λ (z : Told). length (ancestors s z.checkable)) is in
      keeps_none (λ u. nat_eq u.checkable p) (drop i (map told_by_rank order)) (λ m u h.
      let (y, there, same) = get_map told_by_rank order (i + m) u (sym (get_drop i m (map told_by_rank order)) ∙ h) in
      let up = sorted i (i + m) x (omega arith) (slice_get_within order (i + m) y there) in
      let high : y.rank ≡ length (ancestors s u.checkable) = still_ranked.rank (i + m) y there ∙ ap (λ (z : Told). length (ancestors s z.checkable)) same in
      let low = ap (λ (z : Ranked). z.rank) (get_is i x here) in
      let up_is : get_or order (i + m) x ≡ y = (let e : Some (get_or order (i + m) x) ≡ Some y = sym (slice_get-get_or order (i + m) x (slice_get_within order (i + m) y there)) ∙ there in cc) in
      let high_is = ap (λ (z : Ranked). z.rank) up_is in
      apart u.checkable p (λ e. let same_rank = ap (λ z. length (ancestors s z)) e in omega (arith, up, low, high_is, rank, high, fewer, same_rank)))

  pub is_order : IsOrderOf s (map told_by_rank list) (map told_by_rank order)
  is_order = record { within = within_order; first = first; alike = alike }
