-- Dependencies that stand together, by the first of them.
use Rattle.std.proofs.Common.{◌≡◌, ◌≢◌, ◌<◌, ◌≤◌, ◌+◌, ◌&&◌, not, ℕ, zero, suc, List, [], ◌∷◌, ◌++◌, length, take, drop, get_or, slice_get, nat_eq, cond, ◌⊎◌, inl, inr, Bool, true, false, Option, None, Some, All, AllPairs, unwrap_or, refl, sym, ap, ◌∙◌, subst, arith, eqb-true, eq-eqb, length-take-le}
use Rattle.std.specs.Option.{option_or}
use Rattle.std.proofs.lemmas.Bool.{and_parts, and_from, cases_order, or_cases, or_left, or_right}
use Rattle.std.proofs.lemmas.List.{append_assoc, append-nil, drop_more, take_more}
use Rattle.std.proofs.lemmas.List.Kept.{AllPairs-cons}
use Rattle.std.proofs.lemmas.Option.{slice_get-get_or}
use Rattle.site_model.specs.declared.depend_spec.DependSpec.{DependSpec}
use Rattle.run_meaning.proofs.Lists.{get_within, one_at, within}
use Rattle.run_meaning.specs.Reachability.{same_group, stand_together}
use Rattle.depend_graph.specs.Parents.{has}
use Rattle.depend_graph.specs.Teams.{Together, all_leaders, first_keyed, first_with, following, leader_in, leaders_behind, leading}
use Rattle.depend_graph.proofs.Firsts.{not_true, not_from, stand_back, stand_on}
use Rattle.depend_graph.proofs.Has.{eq_apart, never_both, stands_at}

-- The first that stands together with one.

module _ (d : DependSpec) where
  abbrev IsFirstWith : List DependSpec → ℕ → Option ℕ → Type 0
  IsFirstWith ds n None = (j : ℕ) (e : DependSpec) → slice_get ds j ≡ Some e → stand_together d e ≡ false
  IsFirstWith ds n (Some m) =
      (j : ℕ) × (e : DependSpec) × (m ≡ n + j) × (slice_get ds j ≡ Some e) × (stand_together d e ≡ true) × ((i : ℕ) (f : DependSpec) → i < j → slice_get ds i ≡ Some f → stand_together d f ≡ false)

  not_here : (e : DependSpec) (ds : List DependSpec) (n : ℕ) (r : Option ℕ) → stand_together d e ≡ false → IsFirstWith ds (suc n) r → IsFirstWith (e ∷ ds) n r
  not_here e ds n None q f = by
    where
      by : (j : ℕ) (x : DependSpec) → slice_get (e ∷ ds) j ≡ Some x → stand_together d x ≡ false
      by zero x at = let same : e ≡ x = cc in subst (λ (z : DependSpec). stand_together d z ≡ false) same q
      by (suc j) x at = f j x at
  not_here e ds n (Some m) q (j, x, is, at, stands, f) = (suc j, x, omega (arith, is), at, stands, by)
    where
      by : (i : ℕ) (y : DependSpec) → i < suc j → slice_get (e ∷ ds) i ≡ Some y → stand_together d y ≡ false
      by zero y l at = let same : e ≡ y = cc in subst (λ (z : DependSpec). stand_together d z ≡ false) same q
      by (suc i) y l at = f i y (omega (arith, l)) at

  first_with_is : (n : ℕ) (ds : List DependSpec) → IsFirstWith ds n (first_with d n ds)
  first_with_is n [] = λ j e at. absurd cc
  first_with_is n (e ∷ ds) = by (first_with_is (suc n) ds) (stand_together d e) refl
    where
      by : IsFirstWith ds (suc n) (first_with d (suc n) ds) → (t : Bool) → stand_together d e ≡ t → IsFirstWith (e ∷ ds) n (cond t (Some n) (first_with d (suc n) ds))
      by g true q = (0, e, omega arith, refl, q, λ i f l. absurd (omega (arith, l)))
      by g false q = not_here e ds n (first_with d (suc n) ds) q g

-- Leaders by place.

get_leader : (pre ds : List DependSpec) (k : ℕ) (d : DependSpec) → slice_get ds k ≡ Some d → slice_get (leaders_behind pre ds) k ≡ Some (leader_in (pre ++ take k ds) d)
get_leader pre [] k d at = absurd cc
get_leader pre (e ∷ ds) zero d at =
    let same : e ≡ d = cc in ap (λ (z : DependSpec). Some (leader_in pre z)) same ∙ ap (λ z. Some (leader_in z d)) (sym (append-nil pre))
get_leader pre (e ∷ ds) (suc k) d at = get_leader (pre ++ e ∷ []) ds k d at ∙ ap (λ z. Some (leader_in z d)) (append_assoc pre (e ∷ []) (take k ds))

pub length_leaders : (pre ds : List DependSpec) → length (leaders_behind pre ds) ≡ length ds
length_leaders pre [] = refl
length_leaders pre (d ∷ ds) = ap suc (length_leaders (pre ++ d ∷ []) ds)

get_take : {A : Type 0} (xs : List A) (j k : ℕ) → j < k → slice_get (take k xs) j ≡ slice_get xs j
get_take [] j zero h = absurd (omega (arith, h))
get_take [] j (suc k) h = refl
get_take (x ∷ xs) j zero h = absurd (omega (arith, h))
get_take (x ∷ xs) zero (suc k) h = refl
get_take (x ∷ xs) (suc j) (suc k) h = get_take xs j k (omega (arith, h))

module _ (ds : List DependSpec) where
  -- a dependency leads itself, as none before it stands together with it, or it is led by the first that does
  abbrev pub IsLedBy : ℕ → DependSpec → ℕ → Type 0
  IsLedBy k d l =
      ((l ≡ k) × ((j : ℕ) (e : DependSpec) → j < k → slice_get ds j ≡ Some e → stand_together d e ≡ false))
      ⊎ ((l < k) × (e : DependSpec) × (slice_get ds l ≡ Some e) × (stand_together d e ≡ true) × ((i : ℕ) (f : DependSpec) → i < l → slice_get ds i ≡ Some f → stand_together d f ≡ false))

  pub led_by : (k : ℕ) (d : DependSpec) → slice_get ds k ≡ Some d → IsLedBy k d (leader_in (take k ds) d)
  led_by k d at = by (first_with d 0 (take k ds)) refl (first_with_is d 0 (take k ds))
    where
      inside : k < length ds
      inside = within ds k d at

      long : length (take k ds) ≡ k
      long = length-take-le k ds (omega (arith, inside))

      by : (r : Option ℕ) → first_with d 0 (take k ds) ≡ r → IsFirstWith d (take k ds) 0 r → IsLedBy k d (unwrap_or r (length (take k ds)))
      by None q f = inl (long, λ j e l here. f j e (get_take ds j k l ∙ here))
      by (Some m) q (j, e, is, here, stands, f) =
          let same : m ≡ j = omega (arith, is) in
          let low = within (take k ds) j e here in
          let l : j < k = omega (arith, low, long) in
          inr (
            omega (arith, same, l),
            e,
            ap (slice_get ds) same ∙ sym (get_take ds j k l) ∙ here,
            stands,
            λ i g h at_i. let h' : i < j = omega (arith, h, same) in f i g h' (get_take ds i k (omega (arith, h', l)) ∙ at_i),
          )

  pub leader_at : (k l : ℕ) → slice_get (all_leaders ds) k ≡ Some l → (d : DependSpec) × (slice_get ds k ≡ Some d) × (l ≡ leader_in (take k ds) d)
  leader_at k l at =
      let long = length_leaders [] ds in
      let w = within (all_leaders ds) k l at in
      let found = get_within ds k (omega (arith, long, w)) in
      (found.0, found.1, one_at (all_leaders ds) k l (leader_in (take k ds) found.0) at (get_leader [] ds k found.0 found.1))

  pub leader_of_get : (k : ℕ) (d : DependSpec) → slice_get ds k ≡ Some d → slice_get (all_leaders ds) k ≡ Some (leader_in (take k ds) d)
  leader_of_get k d at = get_leader [] ds k d at

  abbrev leads : ℕ → DependSpec → ℕ
  leads k d = leader_in (take k ds) d

  pub leads_low : (k : ℕ) (d : DependSpec) → slice_get ds k ≡ Some d → leads k d ≤ k
  leads_low k d at = by (led_by k d at)
    where
      by : IsLedBy k d (leads k d) → leads k d ≤ k
      by (inl (e, f)) = omega (arith, e)
      by (inr (l, e, at_l, stands, f)) = omega (arith, l)

  -- one is led by itself, or stands together with its leader
  pub with_leader : (k : ℕ) (d : DependSpec) → slice_get ds k ≡ Some d → (leads k d ≡ k) ⊎ Together ds (leads k d) k
  with_leader k d at = by (led_by k d at)
    where
      by : IsLedBy k d (leads k d) → (leads k d ≡ k) ⊎ Together ds (leads k d) k
      by (inl (e, f)) = inl e
      by (inr (l, e, at_l, stands, f)) = inr (e, d, at_l, at, stand_back d e stands)

  -- a leader leads itself
  pub leader_alone : (k : ℕ) (d e : DependSpec) → slice_get ds k ≡ Some d → slice_get ds (leads k d) ≡ Some e → leads (leads k d) e ≡ leads k d
  leader_alone k d e at at_l = by (led_by k d at)
    where
      by : IsLedBy k d (leads k d) → leads (leads k d) e ≡ leads k d
      by (inl (same, f)) =
          let one : e ≡ d = one_at ds k e d (ap (slice_get ds) (sym same) ∙ at_l) at in
          ap (λ z. leads z e) same ∙ ap (leads k) one
      by (inr (l, e', at_e, stands, none)) = on (led_by (leads k d) e at_l)
        where
          one : e' ≡ e
          one = one_at ds (leads k d) e' e at_e at_l

          on : IsLedBy (leads k d) e (leads (leads k d) e) → leads (leads k d) e ≡ leads k d
          on (inl (same, f)) = same
          on (inr (m, f, at_m, more, rest)) =
              absurd (never_both (stand_on d e f (ap (stand_together d) (sym one) ∙ stands) more) (none (leads (leads k d) e) f m at_m))

  -- those that stand together with a leader are led by it
  pub together_led : (k j : ℕ) (d e : DependSpec) → slice_get ds k ≡ Some d → slice_get ds j ≡ Some e → leads k d ≡ k → j ≢ k → stand_together d e ≡ true → leads j e ≡ k
  together_led k j d e at_k at_j alone apart stands = by (led_by k d at_k) (led_by j e at_j)
    where
      by : IsLedBy k d (leads k d) → IsLedBy j e (leads j e) → leads j e ≡ k
      by (inr (l, f, at_f, more, none)) m = absurd (omega (arith, l, alone))
      by (inl (same, none)) (inl (same', none')) = on (cases_order j k)
        where
          on : (j ≡ k) ⊎ ((j < k) ⊎ (k < j)) → leads j e ≡ k
          on (inl q) = absurd (apart q)
          on (inr (inl l)) = absurd (never_both stands (none j e l at_j))
          on (inr (inr l)) = absurd (never_both (stand_back d e stands) (none' k d l at_k))
      by (inl (same, none)) (inr (l, f, at_f, more, none')) = on (cases_order (leads j e) k)
        where
          on : (leads j e ≡ k) ⊎ ((leads j e < k) ⊎ (k < leads j e)) → leads j e ≡ k
          on (inl q) = q
          on (inr (inl m)) = absurd (never_both (stand_on d e f stands more) (none (leads j e) f m at_f))
          on (inr (inr m)) = absurd (never_both (stand_back d e stands) (none' k d m at_k))

-- Those that lead, and those that they lead.

-- a place from this one on has a dependency of a checkable that leads itself
abbrev pub LeadsAt : ℕ → ℕ → List DependSpec → List ℕ → ℕ → Type 0
LeadsAt n c ds ls j = (i : ℕ) × (d : DependSpec) × (j ≡ n + i) × (slice_get ds i ≡ Some d) × (slice_get ls i ≡ Some j) × (d.child ≡ c)

pub leading_own : (n c : ℕ) (ds : List DependSpec) (ls : List ℕ) (j : ℕ) → has j (leading n c ds ls) ≡ true → LeadsAt n c ds ls j
leading_own n c [] ls j h = absurd cc
leading_own n c (d ∷ ds) [] j h = absurd cc
leading_own n c (d ∷ ds) (l ∷ ls) j h = by (leading_own (suc n) c ds ls j) (nat_eq d.child c && nat_eq l n) refl h
  where
    later : LeadsAt (suc n) c ds ls j → LeadsAt n c (d ∷ ds) (l ∷ ls) j
    later (i, e, is, at, at_l, child) = (suc i, e, omega (arith, is), at, at_l, child)

    by : (has j (leading (suc n) c ds ls) ≡ true → LeadsAt (suc n) c ds ls j) → (t : Bool) → (nat_eq d.child c && nat_eq l n) ≡ t → has j (cond t (n ∷ leading (suc n) c ds ls) (leading (suc n) c ds ls)) ≡ true → LeadsAt n c (d ∷ ds) (l ∷ ls) j
    by f false q h = later (f h)
    by f true q h = on (or_cases (nat_eq j n) (has j (leading (suc n) c ds ls)) h)
      where
        on : (nat_eq j n ≡ true) ⊎ (has j (leading (suc n) c ds ls) ≡ true) → LeadsAt n c (d ∷ ds) (l ∷ ls) j
        on (inl e) =
            let both = and_parts (nat_eq d.child c) (nat_eq l n) q in
            let same = eqb-true j n e in
            (0, d, omega (arith, same), refl, ap Some (eqb-true l n both.1 ∙ sym same), eqb-true d.child c both.0)
        on (inr e) = later (f e)

pub leading_has : (n c : ℕ) (ds : List DependSpec) (ls : List ℕ) (i : ℕ) (d : DependSpec) → slice_get ds i ≡ Some d → slice_get ls i ≡ Some (n + i) → d.child ≡ c → has (n + i) (leading n c ds ls) ≡ true
leading_has n c [] ls i d at at_l child = absurd cc
leading_has n c (e ∷ ds) [] i d at at_l child = absurd cc
leading_has n c (e ∷ ds) (l ∷ ls) zero d at at_l child =
    let same : e ≡ d = cc in
    let one : l ≡ n + 0 = cc in
    let zero_more : n + 0 ≡ n = omega arith in
    let test : (nat_eq e.child c && nat_eq l n) ≡ true = and_from (nat_eq e.child c) (nat_eq l n) (eq-eqb e.child c (ap (λ (z : DependSpec). z.child) same ∙ child)) (eq-eqb l n (one ∙ zero_more)) in
    ap (λ t. has (n + 0) (cond t (n ∷ leading (suc n) c ds ls) (leading (suc n) c ds ls))) test
    ∙ or_left (nat_eq (n + 0) n) (has (n + 0) (leading (suc n) c ds ls)) (eq-eqb (n + 0) n zero_more)
leading_has n c (e ∷ ds) (l ∷ ls) (suc i) d at at_l child =
    let more : n + suc i ≡ suc n + i = omega arith in
    ap (λ z. has z (leading n c (e ∷ ds) (l ∷ ls))) more ∙ by (nat_eq e.child c && nat_eq l n) (leading_has (suc n) c ds ls i d at (at_l ∙ ap Some more) child)
  where
    by : (t : Bool) → has (suc n + i) (leading (suc n) c ds ls) ≡ true → has (suc n + i) (cond t (n ∷ leading (suc n) c ds ls) (leading (suc n) c ds ls)) ≡ true
    by true h = or_right (nat_eq (suc n + i) n) (has (suc n + i) (leading (suc n) c ds ls)) h
    by false h = h

pub leading_rises : (n c : ℕ) (ds : List DependSpec) (ls : List ℕ) → AllPairs (λ j k. j < k) (leading n c ds ls)
leading_rises n c [] ls = λ i j d l h. absurd (omega (arith, h))
leading_rises n c (d ∷ ds) [] = λ i j e l h. absurd (omega (arith, h))
leading_rises n c (d ∷ ds) (l ∷ ls) = by (nat_eq d.child c && nat_eq l n) (leading_rises (suc n) c ds ls)
  where
    later : All (λ k. n < k) (leading (suc n) c ds ls)
    later i e h =
        let k = get_or (leading (suc n) c ds ls) i e in
        let own = leading_own (suc n) c ds ls k (stands_at k (leading (suc n) c ds ls) i e h refl) in
        let is = own.2 in omega (arith, is)

    by : (t : Bool) → AllPairs (λ j k. j < k) (leading (suc n) c ds ls) → AllPairs (λ j k. j < k) (cond t (n ∷ leading (suc n) c ds ls) (leading (suc n) c ds ls))
    by true h = AllPairs-cons (λ j k. j < k) n (leading (suc n) c ds ls) later h
    by false h = h

-- a place from this one on is led by another
abbrev pub FollowsAt : ℕ → ℕ → List ℕ → ℕ → Type 0
FollowsAt n k ls j = (i : ℕ) × (j ≡ n + i) × (slice_get ls i ≡ Some k) × (j ≢ k)

pub following_own : (n k : ℕ) (ls : List ℕ) (j : ℕ) → has j (following n k ls) ≡ true → FollowsAt n k ls j
following_own n k [] j h = absurd cc
following_own n k (l ∷ ls) j h = by (following_own (suc n) k ls j) (nat_eq l k && not (nat_eq l n)) refl h
  where
    later : FollowsAt (suc n) k ls j → FollowsAt n k (l ∷ ls) j
    later (i, is, at, apart) = (suc i, omega (arith, is), at, apart)

    by : (has j (following (suc n) k ls) ≡ true → FollowsAt (suc n) k ls j) → (t : Bool) → (nat_eq l k && not (nat_eq l n)) ≡ t → has j (cond t (n ∷ following (suc n) k ls) (following (suc n) k ls)) ≡ true → FollowsAt n k (l ∷ ls) j
    by f false q h = later (f h)
    by f true q h = on (or_cases (nat_eq j n) (has j (following (suc n) k ls)) h)
      where
        on : (nat_eq j n ≡ true) ⊎ (has j (following (suc n) k ls) ≡ true) → FollowsAt n k (l ∷ ls) j
        on (inl e) =
            let both = and_parts (nat_eq l k) (not (nat_eq l n)) q in
            let same = eqb-true j n e in
            let one = eqb-true l k both.0 in
            (0, omega (arith, same), ap Some one, λ f. never_both (eq-eqb l n (one ∙ sym f ∙ same)) (not_true (nat_eq l n) both.1))
        on (inr e) = later (f e)

pub following_has : (n k : ℕ) (ls : List ℕ) (i : ℕ) → slice_get ls i ≡ Some k → n + i ≢ k → has (n + i) (following n k ls) ≡ true
following_has n k [] i at apart = absurd cc
following_has n k (l ∷ ls) zero at apart =
    let one : l ≡ k = cc in
    let zero_more : n + 0 ≡ n = omega arith in
    let test : (nat_eq l k && not (nat_eq l n)) ≡ true = and_from (nat_eq l k) (not (nat_eq l n)) (eq-eqb l k one) (not_from (nat_eq l n) (eq_apart l n (λ q. apart (zero_more ∙ sym q ∙ one)))) in
    ap (λ t. has (n + 0) (cond t (n ∷ following (suc n) k ls) (following (suc n) k ls))) test
    ∙ or_left (nat_eq (n + 0) n) (has (n + 0) (following (suc n) k ls)) (eq-eqb (n + 0) n zero_more)
following_has n k (l ∷ ls) (suc i) at apart =
    let more : n + suc i ≡ suc n + i = omega arith in
    ap (λ z. has z (following n k (l ∷ ls))) more ∙ by (nat_eq l k && not (nat_eq l n)) (following_has (suc n) k ls i at (λ q. apart (more ∙ q)))
  where
    by : (t : Bool) → has (suc n + i) (following (suc n) k ls) ≡ true → has (suc n + i) (cond t (n ∷ following (suc n) k ls) (following (suc n) k ls)) ≡ true
    by true h = or_right (nat_eq (suc n + i) n) (has (suc n + i) (following (suc n) k ls)) h
    by false h = h

-- The first of a child in a group.

pub alone_leader : (ds : List DependSpec) (d : DependSpec) (n : ℕ) → d.group ≡ None → first_with d n ds ≡ None
alone_leader [] d n h = refl
alone_leader (e ∷ ds) d n h =
    ap (λ t. cond t (Some n) (first_with d (suc n) ds)) (no_group e) ∙ alone_leader ds d (suc n) h
  where
    last : (t : Bool) → (t && false) ≡ false
    last true = refl
    last false = refl

    no_group : (e : DependSpec) → stand_together d e ≡ false
    no_group e = ap (λ g. nat_eq d.child e.child && same_group g e.group) h ∙ last (nat_eq d.child e.child)

pub keyed_leader : (ds : List DependSpec) (d : DependSpec) (g : List ℕ) (n : ℕ) → d.group ≡ Some g → first_with d n ds ≡ first_keyed d.child g n ds
keyed_leader [] d g n h = refl
keyed_leader (e ∷ ds) d g n h =
    ap (λ z. cond (nat_eq d.child e.child && same_group z e.group) (Some n) (first_with d (suc n) ds)) h
    ∙ ap (λ r. cond (nat_eq d.child e.child && same_group (Some g) e.group) (Some n) r) (keyed_leader ds d g (suc n) h)

pub keyed_push : (c : ℕ) (g : List ℕ) (n : ℕ) (ds : List DependSpec) (d : DependSpec)
    → first_keyed c g n (ds ++ d ∷ []) ≡ option_or (first_keyed c g n ds) (cond (nat_eq c d.child && same_group (Some g) d.group) (Some (n + length ds)) None)
keyed_push c g n [] d = let e : n ≡ n + 0 = omega arith in ap (λ m. cond (nat_eq c d.child && same_group (Some g) d.group) (Some m) None) e
keyed_push c g n (e ∷ ds) d = by (nat_eq c e.child && same_group (Some g) e.group) (keyed_push c g (suc n) ds d)
  where
    by : (t : Bool) → first_keyed c g (suc n) (ds ++ d ∷ []) ≡ option_or (first_keyed c g (suc n) ds) (cond (nat_eq c d.child && same_group (Some g) d.group) (Some (suc n + length ds)) None)
        → cond t (Some n) (first_keyed c g (suc n) (ds ++ d ∷ [])) ≡ option_or (cond t (Some n) (first_keyed c g (suc n) ds)) (cond (nat_eq c d.child && same_group (Some g) d.group) (Some (n + suc (length ds))) None)
    by true h = refl
    by false h = let e : suc n + length ds ≡ n + suc (length ds) = omega arith in h ∙ ap (λ m. option_or (first_keyed c g (suc n) ds) (cond (nat_eq c d.child && same_group (Some g) d.group) (Some m) None)) e

-- each leader is the place of a dependency
pub leaders_below : (ds : List DependSpec) → All (λ k. k < length (all_leaders ds)) (all_leaders ds)
leaders_below ds i e h =
    let found = leader_at ds i (get_or (all_leaders ds) i e) (slice_get-get_or (all_leaders ds) i e h) in
    let low = leads_low ds i found.0 found.1 in
    let same = found.2 in
    omega (arith, low, same, h)

-- one more leader, behind those of the dependencies before
pub leaders_step : (ds : List DependSpec) (i : ℕ) (d : DependSpec) (before after : List ℕ) (l : ℕ) (all : List ℕ) → i < length ds → d ≡ get_or ds i d → l ≡ leader_in (take i ds) d → after ≡ before ++ l ∷ []
    → before ++ leaders_behind (take i ds) (drop i ds) ≡ all → after ++ leaders_behind (take (i + 1) ds) (drop (i + 1) ds) ≡ all
leaders_step ds i d before after l all h at is grown so_far =
    ap (λ xs. xs ++ leaders_behind (take (i + 1) ds) (drop (i + 1) ds)) grown ∙ append_assoc before (l ∷ []) (leaders_behind (take (i + 1) ds) (drop (i + 1) ds))
    ∙ ap (λ xs. before ++ xs) (ap (λ k. k ∷ leaders_behind (take (i + 1) ds) (drop (i + 1) ds)) is ∙ ap (λ (pre : List DependSpec). leader_in (take i ds) d ∷ leaders_behind pre (drop (i + 1) ds)) (taken ds i d h at) ∙ ap (leaders_behind (take i ds)) (sym (dropped ds i d h at)))
    ∙ so_far
  where
    taken : (ds : List DependSpec) (i : ℕ) (d : DependSpec) → i < length ds → d ≡ get_or ds i d → take (i + 1) ds ≡ take i ds ++ d ∷ []
    taken ds i d h at = take_more ds i d h ∙ ap (λ (z : DependSpec). take i ds ++ z ∷ []) (sym at)

    dropped : (ds : List DependSpec) (i : ℕ) (d : DependSpec) → i < length ds → d ≡ get_or ds i d → drop i ds ≡ d ∷ drop (i + 1) ds
    dropped ds i d h at = drop_more ds i d h ∙ ap (λ (z : DependSpec). z ∷ drop (i + 1) ds) (sym at)

pub taken_more : (ds : List DependSpec) (i : ℕ) (d : DependSpec) → i < length ds → d ≡ get_or ds i d → take (i + 1) ds ≡ take i ds ++ d ∷ []
taken_more ds i d h at = take_more ds i d h ∙ ap (λ (z : DependSpec). take i ds ++ z ∷ []) (sym at)
