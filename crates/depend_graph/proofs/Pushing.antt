-- The steps of loops that add to rows: what stands in one, followed by what the rest adds, stays the same.
use Rattle.std.proofs.Common.{◌≡◌, ◌≢◌, ◌<◌, ◌≤◌, ◌+◌, ◌&&◌, not, ℕ, zero, suc, List, [], ◌∷◌, ◌++◌, length, drop, get_or, set, slice_get, nat_eq, nat_lt, cond, ◌⊎◌, inl, inr, Bool, true, false, AllPairs, refl, sym, ap, ◌∙◌, subst, arith, eq-eqb}
use Rattle.std.proofs.lemmas.Bool.{cases_lt, cases_order, lt-ltb, le-ltb}
use Rattle.std.proofs.lemmas.List.{drop_more}
use Rattle.site_model.specs.PlainSite.{PlainCheck, PlainSite}
use Rattle.site_model.specs.declared.depend_spec.DependSpec.{DependSpec}
use Rattle.run_meaning.specs.Reachability.{host_in}
use Rattle.run_meaning.specs.Turns.{of_index}
use Rattle.depend_graph.specs.Parents.{given}
use Rattle.depend_graph.specs.Search.{AreAbove}
use Rattle.depend_graph.specs.Teams.{following, leading}
use Rattle.depend_graph.proofs.Has.{eq_apart}
use Rattle.depend_graph.proofs.Rows.{given_more, row_added, row_at, row_kept, row_other, row_pushed, row_set}

-- one more number was added to the row of its place
pushed : (before after : List (List ℕ)) (p n c : ℕ) (more : List ℕ) → p < length before → after ≡ set before p (of_index p before ++ n ∷ []) → of_index c after ++ more ≡ of_index c before ++ cond (nat_eq p c) (n ∷ more) more
pushed before after p n c more h is = ap (λ ls. of_index c ls ++ more) is ∙ row_pushed before p n c more h

pub given_step : (before after : List (List ℕ)) (c : ℕ) (ds : List DependSpec) (i : ℕ) (d : DependSpec) (all : List ℕ) → i < length ds → d ≡ get_or ds i d → d.child < length before
    → after ≡ set before d.child (of_index d.child before ++ d.parent ∷ []) → of_index c before ++ given c (drop i ds) ≡ all → of_index c after ++ given c (drop (i + 1) ds) ≡ all
given_step before after c ds i d all l at h is so_far =
    ap (λ ls. of_index c ls ++ given c (drop (i + 1) ds)) is ∙ given_more before d (drop (i + 1) ds) c h
    ∙ ap (λ (xs : List DependSpec). of_index c before ++ given c xs) (sym (drop_more ds i d l ∙ ap (λ (z : DependSpec). z ∷ drop (i + 1) ds) (sym at))) ∙ so_far

last_false : (t : Bool) → (t && false) ≡ false
last_false true = refl
last_false false = refl

-- one that leads itself is added to its child's row, and another to none
pub leading_step : (before after : List (List ℕ)) (c : ℕ) (ds : List DependSpec) (ls : List ℕ) (i : ℕ) (d : DependSpec) (all : List ℕ) → i < length ds → i < length ls → d ≡ get_or ds i d
    → d.child < length before → get_or ls i 0 ≡ i → after ≡ set before d.child (of_index d.child before ++ i ∷ [])
    → of_index c before ++ leading i c (drop i ds) (drop i ls) ≡ all → of_index c after ++ leading (i + 1) c (drop (i + 1) ds) (drop (i + 1) ls) ≡ all
leading_step before after c ds ls i d all l m at h own is so_far =
    pushed before after d.child i c (leading (i + 1) c (drop (i + 1) ds) (drop (i + 1) ls)) h is
    ∙ ap (λ row. of_index c before ++ row) (by (nat_eq d.child c) refl)
    ∙ ap (λ (xs : List DependSpec). of_index c before ++ leading i c xs (drop i ls)) (sym (drop_more ds i d l ∙ ap (λ (z : DependSpec). z ∷ drop (i + 1) ds) (sym at))) ∙ so_far
  where
    rest : leading (i + 1) c (drop (i + 1) ds) (drop (i + 1) ls) ≡ leading (suc i) c (drop (i + 1) ds) (drop (i + 1) ls)
    rest = let e : i + 1 ≡ suc i = omega arith in ap (λ k. leading k c (drop (i + 1) ds) (drop (i + 1) ls)) e

    same : nat_eq (get_or ls i 0) i ≡ true
    same = eq-eqb (get_or ls i 0) i own

    by : (t : Bool) → nat_eq d.child c ≡ t → cond t (i ∷ leading (i + 1) c (drop (i + 1) ds) (drop (i + 1) ls)) (leading (i + 1) c (drop (i + 1) ds) (drop (i + 1) ls)) ≡ leading i c (d ∷ drop (i + 1) ds) (drop i ls)
    by t q =
        ap (λ row. cond t (i ∷ row) row) rest
        ∙ ap (λ u. cond u (i ∷ leading (suc i) c (drop (i + 1) ds) (drop (i + 1) ls)) (leading (suc i) c (drop (i + 1) ds) (drop (i + 1) ls))) (and_true t ∙ sym (ap (λ u. u && nat_eq (get_or ls i 0) i) q ∙ ap (λ u. t && u) same))
        ∙ ap (leading i c (d ∷ drop (i + 1) ds)) (sym (drop_more ls i 0 m))
      where
        and_true : (t : Bool) → t ≡ (t && true)
        and_true true = refl
        and_true false = refl

pub leading_skip : (rows : List (List ℕ)) (c : ℕ) (ds : List DependSpec) (ls : List ℕ) (i : ℕ) (all : List ℕ) → i < length ds → i < length ls
    → get_or ls i 0 ≢ i → of_index c rows ++ leading i c (drop i ds) (drop i ls) ≡ all → of_index c rows ++ leading (i + 1) c (drop (i + 1) ds) (drop (i + 1) ls) ≡ all
leading_skip rows c [] ls i all l m apart so_far = absurd (omega (arith, l))
leading_skip rows c (x ∷ xs) ls i all l m apart so_far =
    ap (λ row. of_index c rows ++ row) (here ∙ ap (λ (ys : List DependSpec). leading i c ys (drop i ls)) (sym (drop_more (x ∷ xs) i x l))) ∙ so_far
  where
    none : (nat_eq (get_or (x ∷ xs) i x).child c && nat_eq (get_or ls i 0) i) ≡ false
    none = ap (λ u. nat_eq (get_or (x ∷ xs) i x).child c && u) (eq_apart (get_or ls i 0) i apart) ∙ last_false (nat_eq (get_or (x ∷ xs) i x).child c)

    here : leading (i + 1) c (drop (i + 1) (x ∷ xs)) (drop (i + 1) ls) ≡ leading i c (get_or (x ∷ xs) i x ∷ drop (i + 1) (x ∷ xs)) (drop i ls)
    here =
        let e : i + 1 ≡ suc i = omega arith in
        ap (λ k. leading k c (drop (i + 1) (x ∷ xs)) (drop (i + 1) ls)) e
        ∙ ap (λ u. cond u (i ∷ leading (suc i) c (drop (i + 1) (x ∷ xs)) (drop (i + 1) ls)) (leading (suc i) c (drop (i + 1) (x ∷ xs)) (drop (i + 1) ls))) (sym none)
        ∙ ap (leading i c (get_or (x ∷ xs) i x ∷ drop (i + 1) (x ∷ xs))) (sym (drop_more ls i 0 m))

pub following_step : (before after : List (List ℕ)) (k : ℕ) (ls : List ℕ) (i : ℕ) (all : List ℕ) → i < length ls → get_or ls i 0 < length before → get_or ls i 0 ≢ i
    → after ≡ set before (get_or ls i 0) (of_index (get_or ls i 0) before ++ i ∷ [])
    → of_index k before ++ following i k (drop i ls) ≡ all → of_index k after ++ following (i + 1) k (drop (i + 1) ls) ≡ all
following_step before after k ls i all l h apart is so_far =
    pushed before after (get_or ls i 0) i k (following (i + 1) k (drop (i + 1) ls)) h is
    ∙ ap (λ row. of_index k before ++ row) (by (nat_eq (get_or ls i 0) k) ∙ ap (following i k) (sym (drop_more ls i 0 l))) ∙ so_far
  where
    e : i + 1 ≡ suc i
    e = omega arith

    one : not (nat_eq (get_or ls i 0) i) ≡ true
    one = ap not (eq_apart (get_or ls i 0) i apart)

    and_true : (t : Bool) → t ≡ (t && true)
    and_true true = refl
    and_true false = refl

    by : (t : Bool) → cond t (i ∷ following (i + 1) k (drop (i + 1) ls)) (following (i + 1) k (drop (i + 1) ls))
        ≡ cond (t && not (nat_eq (get_or ls i 0) i)) (i ∷ following (suc i) k (drop (i + 1) ls)) (following (suc i) k (drop (i + 1) ls))
    by t =
        ap (λ j. cond t (i ∷ following j k (drop (i + 1) ls)) (following j k (drop (i + 1) ls))) e
        ∙ ap (λ u. cond u (i ∷ following (suc i) k (drop (i + 1) ls)) (following (suc i) k (drop (i + 1) ls))) (and_true t ∙ ap (λ u. t && u) (sym one))

pub following_skip : (rows : List (List ℕ)) (k : ℕ) (ls : List ℕ) (i : ℕ) (all : List ℕ) → i < length ls → get_or ls i 0 ≡ i
    → of_index k rows ++ following i k (drop i ls) ≡ all → of_index k rows ++ following (i + 1) k (drop (i + 1) ls) ≡ all
following_skip rows k ls i all l same so_far = ap (λ row. of_index k rows ++ row) (here ∙ ap (following i k) (sym (drop_more ls i 0 l))) ∙ so_far
  where
    none : (nat_eq (get_or ls i 0) k && not (nat_eq (get_or ls i 0) i)) ≡ false
    none = ap (λ u. nat_eq (get_or ls i 0) k && not u) (eq-eqb (get_or ls i 0) i same) ∙ last_false (nat_eq (get_or ls i 0) k)

    here : following (i + 1) k (drop (i + 1) ls) ≡ following i k (get_or ls i 0 ∷ drop (i + 1) ls)
    here =
        let e : i + 1 ≡ suc i = omega arith in
        ap (λ j. following j k (drop (i + 1) ls)) e ∙ ap (λ u. cond u (i ∷ following (suc i) k (drop (i + 1) ls)) (following (suc i) k (drop (i + 1) ls))) (sym none)

-- A host more, or none.

pub hosted : (xs : List PlainCheck) (before after : List (List ℕ)) (i h c : ℕ) → i < length before → after ≡ set before i (of_index i before ++ h ∷ []) → host_in (slice_get xs i) ≡ h ∷ []
    → ((k : ℕ) → of_index k before ≡ cond (nat_lt k i) (host_in (slice_get xs k)) []) → of_index c after ≡ cond (nat_lt c (i + 1)) (host_in (slice_get xs c)) []
hosted xs before after i h c l is here so_far = ap (of_index c) is ∙ by (cases_order c i)
  where
    none : of_index i before ≡ []
    none = so_far i ∙ ap (λ t. cond t (host_in (slice_get xs i)) []) (le-ltb i i (omega arith))

    by : (c ≡ i) ⊎ ((c < i) ⊎ (i < c)) → of_index c (set before i (of_index i before ++ h ∷ [])) ≡ cond (nat_lt c (i + 1)) (host_in (slice_get xs c)) []
    by (inl e) =
        ap (λ k. of_index k (set before i (of_index i before ++ h ∷ []))) e ∙ row_set before i (of_index i before ++ h ∷ []) l ∙ ap (λ row. row ++ h ∷ []) none
        ∙ sym (ap (λ k. cond (nat_lt k (i + 1)) (host_in (slice_get xs k)) []) e ∙ ap (λ t. cond t (host_in (slice_get xs i)) []) (lt-ltb i (i + 1) (omega arith)) ∙ here)
    by (inr (inl m)) =
        row_other before c i (of_index i before ++ h ∷ []) (λ e. omega (arith, e, m)) ∙ so_far c ∙ ap (λ t. cond t (host_in (slice_get xs c)) []) (lt-ltb c i m ∙ sym (lt-ltb c (i + 1) (omega (arith, m))))
    by (inr (inr m)) =
        row_other before c i (of_index i before ++ h ∷ []) (λ e. omega (arith, e, m)) ∙ so_far c ∙ ap (λ t. cond t (host_in (slice_get xs c)) []) (le-ltb c i (omega (arith, m)) ∙ sym (le-ltb c (i + 1) (omega (arith, m))))

pub unhosted : (xs : List PlainCheck) (before : List (List ℕ)) (i c : ℕ) → host_in (slice_get xs i) ≡ []
    → ((k : ℕ) → of_index k before ≡ cond (nat_lt k i) (host_in (slice_get xs k)) []) → of_index c before ≡ cond (nat_lt c (i + 1)) (host_in (slice_get xs c)) []
unhosted xs before i c here so_far = so_far c ∙ by (cases_order c i)
  where
    by : (c ≡ i) ⊎ ((c < i) ⊎ (i < c)) → cond (nat_lt c i) (host_in (slice_get xs c)) [] ≡ cond (nat_lt c (i + 1)) (host_in (slice_get xs c)) []
    by (inl e) =
        ap (λ k. cond (nat_lt k i) (host_in (slice_get xs k)) []) e ∙ ap (λ t. cond t (host_in (slice_get xs i)) []) (le-ltb i i (omega arith)) ∙ sym here
        ∙ sym (ap (λ k. cond (nat_lt k (i + 1)) (host_in (slice_get xs k)) []) e ∙ ap (λ t. cond t (host_in (slice_get xs i)) []) (lt-ltb i (i + 1) (omega arith)))
    by (inr (inl m)) = ap (λ t. cond t (host_in (slice_get xs c)) []) (lt-ltb c i m ∙ sym (lt-ltb c (i + 1) (omega (arith, m))))
    by (inr (inr m)) = ap (λ t. cond t (host_in (slice_get xs c)) []) (le-ltb c i (omega (arith, m)) ∙ sym (le-ltb c (i + 1) (omega (arith, m))))

-- One more list of ancestors.

pub above_pushed : (s : PlainSite) (lists after : List (List ℕ)) (row : List ℕ) (n c : ℕ) → length lists ≡ n → after ≡ lists ++ row ∷ [] → ((k : ℕ) → k < n → AreAbove s k (of_index k lists)) → AreAbove s n row
    → c < n + 1 → AreAbove s c (of_index c after)
above_pushed s lists after row n c long is so_far here l = subst (λ ls. AreAbove s c (of_index c ls)) (sym is) (by (cases_lt c n))
  where
    by : (c < n) ⊎ (n ≤ c) → AreAbove s c (of_index c (lists ++ row ∷ []))
    by (inl m) = subst (AreAbove s c) (sym (row_kept lists row c (omega (arith, m, long)))) (so_far c m)
    by (inr m) =
        let same : c ≡ length lists = omega (arith, m, l, long) in
        let e : n ≡ c = omega (arith, same, long) in
        subst (AreAbove s c) (sym (ap (λ k. of_index k (lists ++ row ∷ [])) same ∙ row_added lists row)) (subst (λ k. AreAbove s k row) e here)

pub rises_pushed : (lists after : List (List ℕ)) (row : List ℕ) → after ≡ lists ++ row ∷ [] → ((k : ℕ) → AllPairs (λ i j. i < j) (of_index k lists)) → AllPairs (λ i j. i < j) row
    → (c : ℕ) → AllPairs (λ i j. i < j) (of_index c after)
rises_pushed lists after row is so_far here c = subst (λ ls. AllPairs (λ i j. i < j) (of_index c ls)) (sym is) (by lists c so_far)
  where
    by : (ls : List (List ℕ)) (k : ℕ) → ((j : ℕ) → AllPairs (λ i j. i < j) (of_index j ls)) → AllPairs (λ i j. i < j) (of_index k (ls ++ row ∷ []))
    by [] zero h = here
    by [] (suc k) h = λ i j d l m. absurd (omega (arith, m))
    by (r ∷ rs) zero h = h 0
    by (r ∷ rs) (suc k) h = by rs k (λ j. h (suc j))
