-- The first dependency that holds back is the first leader whose team is down.
use Rattle.std.proofs.Common.{◌≡◌, ◌<◌, ◌≤◌, ◌+◌, ◌&&◌, ◌||◌, not, ℕ, zero, suc, List, [], ◌∷◌, length, get_or, slice_get, nat_eq, cond, ◌⊎◌, inl, inr, Bool, true, false, Option, Some, None, AllPairs, refl, sym, ap, ◌∙◌, subst, arith, eqb-true, eq-eqb}
use Rattle.std.specs.List.{list_any, list_all}
use Rattle.std.specs.Str.{bytes_eq}
use Rattle.std.proofs.lemmas.Bool.{and_parts, and_from, or_cases, or_left, or_right, cases_eq, cases_order}
use Rattle.std.proofs.lemmas.Slice.Eq.{bytes_eq-Decides}
use Rattle.site_model.specs.declared.depend_spec.DependSpec.{DependSpec}
use Rattle.run_meaning.proofs.Lists.{one_at}
use Rattle.run_meaning.specs.Reachability.{Outlook, first_back, holds_back, is_down, same_group, stand_together}
use Rattle.run_meaning.specs.Turns.{of_index}
use Rattle.depend_graph.specs.Outlooks.{down_at, down_then, first_of, leads_back}
use Rattle.depend_graph.specs.Parents.{has}
use Rattle.depend_graph.specs.Teams.{AreTeams, Together}
use Rattle.depend_graph.proofs.Has.{eq_self, false_from, never_both, place_of, same_tests, stands_at}

-- Tests of lists, by place.

pub any_get : {A : Type 0} (test : A → Bool) (xs : List A) (k : ℕ) (x : A) → slice_get xs k ≡ Some x → test x ≡ true → list_any test xs ≡ true
any_get test [] k x at h = absurd cc
any_get test (y ∷ ys) zero x at h = let e : y ≡ x = cc in or_left (test y) (list_any test ys) (ap test e ∙ h)
any_get test (y ∷ ys) (suc k) x at h = or_right (test y) (list_any test ys) (any_get test ys k x at h)

pub any_own : {A : Type 0} (test : A → Bool) (xs : List A) → list_any test xs ≡ true → (k : ℕ) × (x : A) × (slice_get xs k ≡ Some x) × (test x ≡ true)
any_own test [] h = absurd cc
any_own {A = A} test (x ∷ xs) h = by (any_own test xs) (test x) refl
  where
    by : (list_any test xs ≡ true → (k : ℕ) × (y : A) × (slice_get xs k ≡ Some y) × (test y ≡ true)) → (t : Bool) → test x ≡ t → (k : ℕ) × (y : A) × (slice_get (x ∷ xs) k ≡ Some y) × (test y ≡ true)
    by f true q = (0, x, refl, q)
    by f false q =
        let more : list_any test xs ≡ true = ap (λ b. b || list_any test xs) (sym q) ∙ h in
        let found = f more in
        (suc found.0, found.1, found.2, found.3)

pub all_at : (test : ℕ → Bool) (ns : List ℕ) (k d : ℕ) → k < length ns → list_all test ns ≡ true → test (get_or ns k d) ≡ true
all_at test [] k d l h = absurd (omega (arith, l))
all_at test (n ∷ ns) zero d l h = (and_parts (test n) (list_all test ns) h).0
all_at test (n ∷ ns) (suc k) d l h = all_at test ns k d (omega (arith, l)) (and_parts (test n) (list_all test ns) h).1

pub all_from : (test : ℕ → Bool) (ns : List ℕ) → ((k : ℕ) → k < length ns → test (get_or ns k 0) ≡ true) → list_all test ns ≡ true
all_from test [] h = refl
all_from test (n ∷ ns) h = and_from (test n) (list_all test ns) (h 0 (omega arith)) (all_from test ns (λ k l. h (suc k) (omega (arith, l))))

pub not_true : (t : Bool) → not t ≡ true → t ≡ false
not_true true h = sym h
not_true false h = refl

pub not_from : (t : Bool) → t ≡ false → not t ≡ true
not_from true h = sym h
not_from false h = refl

pub true_from : (t : Bool) → (t ≡ false → ⊥) → t ≡ true
true_from true h = refl
true_from false h = absurd (h refl)

-- the first of these numbers that passes a test
abbrev pub IsFirstAmong : (ℕ → Bool) → List ℕ → Option ℕ → Type 0
IsFirstAmong test ks None = (k : ℕ) → has k ks ≡ true → test k ≡ false
IsFirstAmong test ks (Some k) = (has k ks ≡ true) × (test k ≡ true) × ((j : ℕ) → has j ks ≡ true → j < k → test j ≡ false)

pub first_among : (test : ℕ → Bool) (ks : List ℕ) → AllPairs (λ j k. j < k) ks → IsFirstAmong test ks (first_of test ks)
first_among test [] up = λ k h. absurd cc
first_among test (k ∷ ks) up = by (first_among test ks (λ i j d l h. up (suc i) (suc j) d (omega (arith, l)) (omega (arith, h)))) (test k) refl
  where
    later : (j : ℕ) → has j ks ≡ true → k < j
    later j h = let place = place_of j ks h in subst (λ z. k < z) (place.2 0) (up 0 (suc place.0) 0 (omega arith) (let l = place.1 in omega (arith, l)))

    on : (r : Option ℕ) → test k ≡ false → IsFirstAmong test ks r → IsFirstAmong test (k ∷ ks) r
    on None q f = λ j h. one j (or_cases (nat_eq j k) (has j ks) h)
      where
        one : (j : ℕ) → (nat_eq j k ≡ true) ⊎ (has j ks ≡ true) → test j ≡ false
        one j (inl e) = ap test (eqb-true j k e) ∙ q
        one j (inr e) = f j e
    on (Some m) q (mine, passes, f) = (or_right (nat_eq m k) (has m ks) mine, passes, λ j h l. one j l (or_cases (nat_eq j k) (has j ks) h))
      where
        one : (j : ℕ) → j < m → (nat_eq j k ≡ true) ⊎ (has j ks ≡ true) → test j ≡ false
        one j l (inl e) = ap test (eqb-true j k e) ∙ q
        one j l (inr e) = f j e l

    by : IsFirstAmong test ks (first_of test ks) → (t : Bool) → test k ≡ t → IsFirstAmong test (k ∷ ks) (cond t (Some k) (first_of test ks))
    by f true q = (or_left (nat_eq k k) (has k ks) (eq_self k), q, λ j h l. none j l (or_cases (nat_eq j k) (has j ks) h))
      where
        none : (j : ℕ) → j < k → (nat_eq j k ≡ true) ⊎ (has j ks ≡ true) → test j ≡ false
        none j l (inl e) = let q = eqb-true j k e in absurd (omega (arith, q, l))
        none j l (inr e) = let q = later j e in absurd (omega (arith, q, l))
    by f false q = on (first_of test ks) q f

-- Standing together.

pub same_bytes : (g h : List ℕ) → bytes_eq g h ≡ true → g ≡ h
same_bytes g h e = (bytes_eq-Decides g h).0 e

pub bytes_self : (g : List ℕ) → bytes_eq g g ≡ true
bytes_self g = (bytes_eq-Decides g g).1 refl

group_back : (g h : Option (List ℕ)) → same_group g h ≡ true → same_group h g ≡ true
group_back None h e = absurd cc
group_back (Some g) None e = absurd cc
group_back (Some g) (Some h) e = subst (λ z. bytes_eq z g ≡ true) (same_bytes g h e) (bytes_self g)

group_on : (g h i : Option (List ℕ)) → same_group g h ≡ true → same_group h i ≡ true → same_group g i ≡ true
group_on None h i e f = absurd cc
group_on (Some g) None i e f = absurd cc
group_on (Some g) (Some h) None e f = absurd cc
group_on (Some g) (Some h) (Some i) e f = subst (λ z. bytes_eq z i ≡ true) (sym (same_bytes g h e)) f

pub stand_back : (d e : DependSpec) → stand_together d e ≡ true → stand_together e d ≡ true
stand_back d e h =
    let both = and_parts (nat_eq d.child e.child) (same_group d.group e.group) h in
    and_from (nat_eq e.child d.child) (same_group e.group d.group) (eq-eqb e.child d.child (sym (eqb-true d.child e.child both.0))) (group_back d.group e.group both.1)

pub stand_on : (d e f : DependSpec) → stand_together d e ≡ true → stand_together e f ≡ true → stand_together d f ≡ true
stand_on d e f h k =
    let one = and_parts (nat_eq d.child e.child) (same_group d.group e.group) h in
    let two = and_parts (nat_eq e.child f.child) (same_group e.group f.group) k in
    and_from (nat_eq d.child f.child) (same_group d.group f.group)
    (eq-eqb d.child f.child (eqb-true d.child e.child one.0 ∙ eqb-true e.child f.child two.0)) (group_on d.group e.group f.group one.1 two.1)

pub same_child : (d e : DependSpec) → stand_together d e ≡ true → d.child ≡ e.child
same_child d e h = eqb-true d.child e.child (and_parts (nat_eq d.child e.child) (same_group d.group e.group) h).0

-- The first place of all.

abbrev pub IsFirst : (ℕ → Bool) → Option ℕ → Type 0
IsFirst test None = (k : ℕ) → test k ≡ false
IsFirst test (Some k) = (test k ≡ true) × ((j : ℕ) → j < k → test j ≡ false)

pub one_first : (test : ℕ → Bool) (m n : Option ℕ) → IsFirst test m → IsFirst test n → m ≡ n
one_first test None None f g = refl
one_first test None (Some k) f g = absurd (never_both g.0 (f k))
one_first test (Some k) None f g = absurd (never_both f.0 (g k))
one_first test (Some j) (Some k) f g = by (cases_order j k)
  where
    by : (j ≡ k) ⊎ ((j < k) ⊎ (k < j)) → Some j ≡ Some k
    by (inl e) = ap Some e
    by (inr (inl l)) = absurd (never_both f.0 (g.1 j l))
    by (inr (inr l)) = absurd (never_both g.0 (f.1 k l))

module _ (o : Outlook) (b : ℕ → Bool) (c : ℕ) where
  abbrev held_then : Option DependSpec → Bool
  held_then None = false
  held_then (Some d) = nat_eq d.child c && holds_back o b d

  -- whether the dependency of this place is the checkable's and holds it back
  abbrev pub held_at : ℕ → Bool
  held_at k = held_then (slice_get o.site.depends k)

  -- behind those of a list
  abbrev held_from : List DependSpec → ℕ → Bool
  held_from ds k = held_then (slice_get ds k)

  abbrev IsFirstFrom : List DependSpec → ℕ → Option ℕ → Type 0
  IsFirstFrom ds n None = (k : ℕ) → held_from ds k ≡ false
  IsFirstFrom ds n (Some m) = (k : ℕ) × (m ≡ n + k) × (held_from ds k ≡ true) × ((j : ℕ) → j < k → held_from ds j ≡ false)

  none_here : (d : DependSpec) (ds : List DependSpec) (n : ℕ) (r : Option ℕ) → (nat_eq d.child c && holds_back o b d) ≡ false → IsFirstFrom ds (suc n) r → IsFirstFrom (d ∷ ds) n r
  none_here d ds n None q f = by
    where
      by : (k : ℕ) → held_from (d ∷ ds) k ≡ false
      by zero = q
      by (suc k) = f k
  none_here d ds n (Some m) q (k, e, h, f) = (suc k, omega (arith, e), h, by)
    where
      by : (j : ℕ) → j < suc k → held_from (d ∷ ds) j ≡ false
      by zero l = q
      by (suc j) l = f j (omega (arith, l))

  first_from : (n : ℕ) (ds : List DependSpec) → IsFirstFrom ds n (first_back o b c n ds)
  first_from n [] = λ k. refl
  first_from n (d ∷ ds) = by (first_from (suc n) ds) (nat_eq d.child c && holds_back o b d) refl
    where
      by : IsFirstFrom ds (suc n) (first_back o b c (suc n) ds) → (t : Bool) → (nat_eq d.child c && holds_back o b d) ≡ t → IsFirstFrom (d ∷ ds) n (cond t (Some n) (first_back o b c (suc n) ds))
      by f true q = (0, omega arith, q, λ j l. absurd (omega (arith, l)))
      by f false q = none_here d ds n (first_back o b c (suc n) ds) q f

  pub back_first : IsFirst held_at (first_back o b c 0 o.site.depends)
  back_first = by (first_back o b c 0 o.site.depends) (first_from 0 o.site.depends)
    where
      by : (r : Option ℕ) → IsFirstFrom o.site.depends 0 r → IsFirst held_at r
      by None f = f
      by (Some m) (k, e, h, f) =
          let same : m ≡ k = omega (arith, e) in
          (ap held_at same ∙ h, λ j l. f j (omega (arith, same, l)))

  -- one stands together with another, and that one isn't down
  abbrev not_down : DependSpec → DependSpec → Bool
  not_down f g = stand_together f g && not (is_down o b g)

  -- one that stands together with one that holds back does too
  holds_move : (i : ℕ) (d e : DependSpec) → slice_get o.site.depends i ≡ Some d → stand_together d e ≡ true → holds_back o b e ≡ true → holds_back o b d ≡ true
  holds_move i d e at together h = and_from (is_down o b d) (not (list_any (not_down d) o.site.depends)) down_d (not_from (list_any (not_down d) o.site.depends) none_d)
    where
      none_e : list_any (not_down e) o.site.depends ≡ false
      none_e = not_true (list_any (not_down e) o.site.depends) (and_parts (is_down o b e) (not (list_any (not_down e) o.site.depends)) h).1

      down_d : is_down o b d ≡ true
      down_d = true_from (is_down o b d) (λ q. never_both (any_get (not_down e) o.site.depends i d at (and_from (stand_together e d) (not (is_down o b d)) (stand_back d e together) (not_from (is_down o b d) q))) none_e)

      none_d : list_any (not_down d) o.site.depends ≡ false
      none_d = false_from (list_any (not_down d) o.site.depends) (λ q.
          let own = any_own (not_down d) o.site.depends q in
          let both = and_parts (stand_together d own.1) (not (is_down o b own.1)) own.3 in
          never_both (any_get (not_down e) o.site.depends own.0 own.1 own.2 (and_from (stand_together e own.1) (not (is_down o b own.1)) (stand_on e d own.1 (stand_back d e together) both.0) both.1)) none_e)

  module _ (leaders followers : List (List ℕ)) (teams : AreTeams o.site leaders followers) where
    abbrev leads : ℕ → Bool
    leads = leads_back o b followers

    -- of a leader: it and those that it leads are down where it holds back
    leads_holds : (k : ℕ) (d : DependSpec) → has k (of_index c leaders) ≡ true → slice_get o.site.depends k ≡ Some d → leads k ≡ holds_back o b d
    leads_holds k d leader at = ap (λ t. t && list_all (down_at o b) (of_index k followers)) here ∙ by (is_down o b d) refl
      where
        here : down_at o b k ≡ is_down o b d
        here = ap (down_then o b) at

        led : is_down o b d ≡ true → list_all (down_at o b) (of_index k followers) ≡ true → list_any (not_down d) o.site.depends ≡ true → ⊥
        led q all any =
            let own = any_own (not_down d) o.site.depends any in
            let both = and_parts (stand_together d own.1) (not (is_down o b own.1)) own.3 in
            let up : is_down o b own.1 ≡ false = not_true (is_down o b own.1) both.1 in
            by (cases_eq own.0 k) own.1 own.2 both.0 up
          where
            by : {j : ℕ} → (j ≡ k) ⊎ (j ≡ k → ⊥) → (e : DependSpec) → slice_get o.site.depends j ≡ Some e → stand_together d e ≡ true → is_down o b e ≡ false → ⊥
            by {j = j} (inl same) e there together up =
                let one : e ≡ d = one_at o.site.depends j e d there (ap (slice_get o.site.depends) same ∙ at) in
                never_both q (ap (is_down o b) (sym one) ∙ up)
            by {j = j} (inr apart) e there together up =
                let in_team : has j (of_index k followers) ≡ true = (teams.others c k j leader).1 (apart, (d, e, at, there, together)) in
                let place = place_of j (of_index k followers) in_team in
                never_both (ap (down_at o b) (sym (place.2 0)) ∙ all_at (down_at o b) (of_index k followers) place.0 0 place.1 all) (ap (down_then o b) there ∙ up)

        all_led : list_any (not_down d) o.site.depends ≡ false → list_all (down_at o b) (of_index k followers) ≡ true
        all_led none = all_from (down_at o b) (of_index k followers) (λ i l.
            let j = get_or (of_index k followers) i 0 in
            let (apart, (d', e, at', there, together)) = (teams.others c k j leader).0 (stands_at j (of_index k followers) i 0 l refl) in
            let one : d' ≡ d = one_at o.site.depends k d' d at' at in
            let stands : stand_together d e ≡ true = ap (λ f. stand_together f e) (sym one) ∙ together in
            ap (down_then o b) there ∙ true_from (is_down o b e) (λ q. never_both (any_get (not_down d) o.site.depends j e there (and_from (stand_together d e) (not (is_down o b e)) stands (not_from (is_down o b e) q))) none))

        by : (t : Bool) → is_down o b d ≡ t → (t && list_all (down_at o b) (of_index k followers)) ≡ (t && not (list_any (not_down d) o.site.depends))
        by false q = refl
        by true q =
            same_tests (list_all (down_at o b) (of_index k followers)) (not (list_any (not_down d) o.site.depends))
            (λ all. not_from (list_any (not_down d) o.site.depends) (false_from (list_any (not_down d) o.site.depends) (λ any. led q all any)))
            (λ none. all_led (not_true (list_any (not_down d) o.site.depends) none))

    -- where one holds back, its leader does, which stands no later
    leader_holds : (k : ℕ) → held_at k ≡ true → (j : ℕ) × (j ≤ k) × (has j (of_index c leaders) ≡ true) × (leads j ≡ true)
    leader_holds k h = by (slice_get o.site.depends k) refl
      where
        by : (r : Option DependSpec) → slice_get o.site.depends k ≡ r → (j : ℕ) × (j ≤ k) × (has j (of_index c leaders) ≡ true) × (leads j ≡ true)
        by None at = absurd (never_both h (ap held_then at))
        by (Some e) at = led (teams.led k e at)
          where
            both : (nat_eq e.child c ≡ true) × (holds_back o b e ≡ true)
            both = and_parts (nat_eq e.child c) (holds_back o b e) (sym (ap held_then at) ∙ h)

            child : e.child ≡ c
            child = eqb-true e.child c both.0

            led : (j : ℕ) × (j ≤ k) × (has j (of_index e.child leaders) ≡ true) × ((j ≡ k) ⊎ Together o.site.depends j k) → (j : ℕ) × (j ≤ k) × (has j (of_index c leaders) ≡ true) × (leads j ≡ true)
            led (j, low, leader, inl same) =
                let mine : has j (of_index c leaders) ≡ true = ap (λ z. has j (of_index z leaders)) (sym child) ∙ leader in
                (j, low, mine, leads_holds j e mine (ap (slice_get o.site.depends) same ∙ at) ∙ both.1)
            led (j, low, leader, inr (d, e', at_j, at_k, together)) =
                let mine : has j (of_index c leaders) ≡ true = ap (λ z. has j (of_index z leaders)) (sym child) ∙ leader in
                let one : e' ≡ e = one_at o.site.depends k e' e at_k at in
                (j, low, mine, leads_holds j d mine at_j ∙ holds_move j d e at_j (ap (stand_together d) (sym one) ∙ together) both.1)

    leaders_first : IsFirst held_at (first_of leads (of_index c leaders))
    leaders_first = by (first_of leads (of_index c leaders)) (first_among leads (of_index c leaders) (teams.rising c))
      where
        by : (r : Option ℕ) → IsFirstAmong leads (of_index c leaders) r → IsFirst held_at r
        by None f = λ k. false_from (held_at k) (λ h. let (j, low, mine, led) = leader_holds k h in never_both led (f j mine))
        by (Some k) (mine, led, f) =
            let (d, at, child) = teams.child c k mine in (
              ap held_then at ∙ and_from (nat_eq d.child c) (holds_back o b d) (eq-eqb d.child c child) (sym (leads_holds k d mine at) ∙ led),
              λ j l. false_from (held_at j) (λ h. let (i, low, one, held) = leader_holds j h in never_both held (f i one (omega (arith, low, l)))),
            )

    pub first_is : first_of leads (of_index c leaders) ≡ first_back o b c 0 o.site.depends
    first_is = one_first held_at (first_of leads (of_index c leaders)) (first_back o b c 0 o.site.depends) leaders_first back_first
