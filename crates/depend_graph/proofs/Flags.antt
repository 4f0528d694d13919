-- Flags and views beside rising numbers.
use Rattle.std.proofs.Common.{◌≡◌, ◌<◌, ℕ, zero, suc, List, [], ◌∷◌, length, map, get_or, set, nat_eq, cond, Bool, true, false, None, Some, AllPairs, refl, sym, ap, ◌∙◌, subst, arith, eqb-true, eq-eqb}
use Rattle.std.proofs.lemmas.Bool.{or_parts}
use Rattle.site_model.specs.declared.view.View.{View}
use Rattle.run_meaning.specs.Reachability.{view_among}
use Rattle.depend_graph.specs.Outlooks.{flagged, seen_as}
use Rattle.depend_graph.specs.Parents.{has}
use Rattle.depend_graph.proofs.Has.{eq_apart, eq_back, false_from, never_both}

rest_rises : (m : ℕ) (ms : List ℕ) → AllPairs (λ j k. j < k) (m ∷ ms) → AllPairs (λ j k. j < k) ms
rest_rises m ms up = λ i j d l h. up (suc i) (suc j) d (omega (arith, l)) (omega (arith, h))

-- the first is none of the others
first_apart : (m : ℕ) (ms : List ℕ) (k : ℕ) → AllPairs (λ j k. j < k) (m ∷ ms) → k < length ms → nat_eq m (get_or ms k 0) ≡ false
first_apart m ms k up l = let q = up 0 (suc k) 0 (omega arith) (omega (arith, l)) in eq_apart m (get_or ms k 0) (λ e. omega (arith, e, q))

back_apart : (m n : ℕ) → nat_eq n m ≡ false → nat_eq m n ≡ false
back_apart m n h = false_from (nat_eq m n) (λ q. never_both (eq_back m n q) h)

pub flag_at : (ms : List ℕ) (fs : List Bool) (k n : ℕ) (d : Bool) → AllPairs (λ j k. j < k) ms → k < length ms → length fs ≡ length ms → get_or ms k 0 ≡ n → flagged ms fs n ≡ get_or fs k d
flag_at [] fs k n d up l long at = absurd (omega (arith, l))
flag_at (m ∷ ms) [] k n d up l long at = absurd (omega (arith, long))
flag_at (m ∷ ms) (f ∷ fs) zero n d up l long at = ap (λ t. cond t f (flagged ms fs n)) (eq-eqb m n at)
flag_at (m ∷ ms) (f ∷ fs) (suc k) n d up l long at =
    ap (λ t. cond t f (flagged ms fs n)) (ap (nat_eq m) (sym at) ∙ first_apart m ms k up (omega (arith, l)))
    ∙ flag_at ms fs k n d (rest_rises m ms up) (omega (arith, l)) (omega (arith, long)) at

pub flag_none : (ms : List ℕ) (fs : List Bool) (n : ℕ) → has n ms ≡ false → flagged ms fs n ≡ false
flag_none [] fs n h = refl
flag_none (m ∷ ms) [] n h = refl
flag_none (m ∷ ms) (f ∷ fs) n h =
    let both = or_parts (nat_eq n m) (has n ms) h in
    ap (λ t. cond t f (flagged ms fs n)) (back_apart m n both.0) ∙ flag_none ms fs n both.1

pub flag_set : (ms : List ℕ) (fs : List Bool) (k n m : ℕ) (v : Bool) → AllPairs (λ j k. j < k) ms → k < length ms → length fs ≡ length ms → get_or ms k 0 ≡ n
    → flagged ms (set fs k v) m ≡ cond (nat_eq n m) v (flagged ms fs m)
flag_set [] fs k n m v up l long at = absurd (omega (arith, l))
flag_set (x ∷ xs) [] k n m v up l long at = absurd (omega (arith, long))
flag_set (x ∷ xs) (f ∷ fs) zero n m v up l long at = by (nat_eq x m) refl
  where
    by : (t : Bool) → nat_eq x m ≡ t → cond t v (flagged xs fs m) ≡ cond (nat_eq n m) v (cond t f (flagged xs fs m))
    by true q = ap (λ t. cond t v f) (sym (ap (λ z. nat_eq z m) (sym at) ∙ q))
    by false q = ap (λ t. cond t v (flagged xs fs m)) (sym (ap (λ z. nat_eq z m) (sym at) ∙ q))
flag_set (x ∷ xs) (f ∷ fs) (suc k) n m v up l long at = by (nat_eq x m) refl (flag_set xs fs k n m v (rest_rises x xs up) (omega (arith, l)) (omega (arith, long)) at)
  where
    by : (t : Bool) → nat_eq x m ≡ t → flagged xs (set fs k v) m ≡ cond (nat_eq n m) v (flagged xs fs m)
        → cond t f (flagged xs (set fs k v) m) ≡ cond (nat_eq n m) v (cond t f (flagged xs fs m))
    by true q h =
        let same = eqb-true x m q in
        let apart : nat_eq n m ≡ false = back_apart n m (ap (λ z. nat_eq z n) (sym same) ∙ ap (nat_eq x) (sym at) ∙ first_apart x xs k up (omega (arith, l))) in
        ap (λ t. cond t v f) (sym apart)
    by false q h = h

abbrev firsts : List (ℕ × View) → List ℕ
firsts ss = map (λ (s : ℕ × View). s.0) ss

pub view_at : (ss : List (ℕ × View)) (ms : List ℕ) (k n : ℕ) (d : ℕ × View) → firsts ss ≡ ms → AllPairs (λ j k. j < k) ms → k < length ms → get_or ms k 0 ≡ n
    → view_among n (map seen_as ss) ≡ Some (get_or ss k d).1
view_at ss ms k n d e up l at = by ss k n (subst (AllPairs (λ j k. j < k)) (sym e) up) (subst (λ z. k < length z) (sym e) l) (ap (λ z. get_or z k 0) e ∙ at)
  where
    by : (ss : List (ℕ × View)) (k n : ℕ) → AllPairs (λ j k. j < k) (firsts ss) → k < length (firsts ss) → get_or (firsts ss) k 0 ≡ n → view_among n (map seen_as ss) ≡ Some (get_or ss k d).1
    by [] k n up l at = absurd (omega (arith, l))
    by (s ∷ ss) zero n up l at = ap (λ t. cond t (Some s.1) (view_among n (map seen_as ss))) (eq-eqb s.0 n at)
    by (s ∷ ss) (suc k) n up l at =
        ap (λ t. cond t (Some s.1) (view_among n (map seen_as ss))) (ap (nat_eq s.0) (sym at) ∙ first_apart s.0 (firsts ss) k up (omega (arith, l)))
        ∙ by ss k n (rest_rises s.0 (firsts ss) up) (omega (arith, l)) at

pub view_none : (ss : List (ℕ × View)) (ms : List ℕ) (n : ℕ) → firsts ss ≡ ms → has n ms ≡ false → view_among n (map seen_as ss) ≡ None
view_none ss ms n e h = by ss (ap (has n) e ∙ h)
  where
    by : (ss : List (ℕ × View)) → has n (firsts ss) ≡ false → view_among n (map seen_as ss) ≡ None
    by [] h = refl
    by (s ∷ ss) h =
        let both = or_parts (nat_eq n s.0) (has n (firsts ss)) h in
        ap (λ t. cond t (Some s.1) (view_among n (map seen_as ss))) (back_apart s.0 n both.0) ∙ by ss both.1
