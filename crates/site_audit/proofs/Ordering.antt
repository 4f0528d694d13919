-- Counting for how many each waits is the same as looking for those that are free.
use Rattle.std.proofs.Common.{◌≡◌, ◌≢◌, ◌==◌, All, take, ◌&&◌, ◌||◌, ◌+◌, ◌-◌, ◌<◌, ◌≤◌, ℕ, zero, suc, nat_eq, nat_lt, Bool, true, false, cond, not, List, [], ◌∷◌, ◌++◌, length, map, filter, set, get_or, replicate, drop, refl, sym, ap, ◌∙◌, subst, arith, append_assoc, Some, None, ◌⊎◌, inl, inr}
use Rattle.std.proofs.lemmas.Bool.Decides.{nat_tests}
use Rattle.std.proofs.lemmas.List.Elements.{All-from_recursion}
use Rattle.std.proofs.lemmas.List.{append-nil, length-set, get_or-set_same, get_or-set_other}
use Rattle.std.specs.BTreeSet.{insert_key}
use Rattle.std.specs.List.{AllByRecursion}
use Rattle.std.specs.Ordering.{match_ordering, nat_cmp}
use Rattle.std.specs.declared.cmp.Ordering.TheVariants.{Less, Equal, Greater}
use Rattle.run_meaning.specs.Turns.{from_on, of_index}
use Rattle.site_audit.specs.Order.{stands, blocked, free_in, taken_next, order_from, order_in, all_or_none, zeros_from, zeros, noted, one_less, less_by, one_more, more_by, followers}
use Rattle.site_audit.specs.declared.order.Pair.{Pair}

-- Numbers.

less : (k j : ℕ) → k < j → nat_cmp k j ≡ Less
less k j h = grind (arith, nat_tests)

same : (k j : ℕ) → k ≡ j → nat_cmp k j ≡ Equal
same k j h = grind (arith, nat_tests)

greater : (k j : ℕ) → j < k → nat_cmp k j ≡ Greater
greater k j h = grind (arith, nat_tests)

eq_is : (a b : ℕ) → nat_eq a b ≡ true → a ≡ b
eq_is a b e = grind (arith, nat_tests)

eq_not : (a b : ℕ) → nat_eq a b ≡ false → a ≢ b
eq_not a b e = λ h. let w : nat_eq a b ≡ true = grind (arith, nat_tests) in absurd cc

no_zero : (n : ℕ) → (n == 0) ≡ false → 0 < n
no_zero n e = grind (arith, nat_tests)

is_zero : (n : ℕ) → (n == 0) ≡ true → n ≡ 0
is_zero n e = grind (arith, nat_tests)

-- Zeros of a list.

module _ (k j : ℕ) where
  abbrev put : List ℕ → List ℕ
  put xs = insert_key nat_cmp xs k

  put_before : (xs : List ℕ) → k < j → put (j ∷ xs) ≡ k ∷ j ∷ xs
  put_before xs h = ap (λ o. match_ordering o (k ∷ j ∷ xs) (j ∷ xs) (j ∷ put xs)) (less k j h)

  put_same : (xs : List ℕ) → k ≡ j → put (j ∷ xs) ≡ j ∷ xs
  put_same xs h = ap (λ o. match_ordering o (k ∷ j ∷ xs) (j ∷ xs) (j ∷ put xs)) (same k j h)

  put_behind : (xs : List ℕ) → j < k → put (j ∷ xs) ≡ j ∷ put xs
  put_behind xs h = ap (λ o. match_ordering o (k ∷ j ∷ xs) (j ∷ xs) (j ∷ put xs)) (greater k j h)

in_front : (k j : ℕ) (ws : List ℕ) → k < j → insert_key nat_cmp (zeros_from j ws) k ≡ k ∷ zeros_from j ws
in_front k j [] h = refl
in_front k j (w ∷ ws) h = by (w == 0) (in_front k (suc j) ws (omega (arith, h)))
  where
    by : (t : Bool) → insert_key nat_cmp (zeros_from (suc j) ws) k ≡ k ∷ zeros_from (suc j) ws → insert_key nat_cmp (cond t (j ∷ zeros_from (suc j) ws) (zeros_from (suc j) ws)) k ≡ k ∷ cond t (j ∷ zeros_from (suc j) ws) (zeros_from (suc j) ws)
    by true ih = put_before k j (zeros_from (suc j) ws) h
    by false ih = ih

put_from : (i j k : ℕ) (ws : List ℕ) → k ≡ j + i → i < length ws → insert_key nat_cmp (zeros_from j ws) k ≡ zeros_from j (set ws i 0)
put_from i j k [] at l = absurd (omega (arith, l))
put_from zero j k (w ∷ ws) at l = by (w == 0)
  where
    by : (t : Bool) → insert_key nat_cmp (cond t (j ∷ zeros_from (suc j) ws) (zeros_from (suc j) ws)) k ≡ j ∷ zeros_from (suc j) ws
    by true = put_same k j (zeros_from (suc j) ws) (omega (arith, at))
    by false = let e : k ≡ j = omega (arith, at) in in_front k (suc j) ws (omega (arith, at)) ∙ ap (λ n. n ∷ zeros_from (suc j) ws) e
put_from (suc i) j k (w ∷ ws) at l = by (w == 0) (put_from i (suc j) k ws (omega (arith, at)) (omega (arith, l)))
  where
    by : (t : Bool) → insert_key nat_cmp (zeros_from (suc j) ws) k ≡ zeros_from (suc j) (set ws i 0) → insert_key nat_cmp (cond t (j ∷ zeros_from (suc j) ws) (zeros_from (suc j) ws)) k ≡ cond t (j ∷ zeros_from (suc j) (set ws i 0)) (zeros_from (suc j) (set ws i 0))
    by true ih = put_behind k j (zeros_from (suc j) ws) (omega (arith, at)) ∙ ap (λ xs. j ∷ xs) ih
    by false ih = ih

still_from : (i j y : ℕ) (ws : List ℕ) → (y == 0) ≡ false → (get_or ws i 0 == 0) ≡ false → zeros_from j (set ws i y) ≡ zeros_from j ws
still_from i j y [] e h = refl
still_from zero j y (w ∷ ws) e h = ap (λ t. cond t (j ∷ zeros_from (suc j) ws) (zeros_from (suc j) ws)) (e ∙ sym h)
still_from (suc i) j y (w ∷ ws) e h = ap (λ xs. cond (w == 0) (j ∷ xs) xs) (still_from i (suc j) y ws e h)

-- one count is less by one, and its number is free once that is 0
pub counted_down : (k left : ℕ) (ws : List ℕ) → k < length ws → left ≡ get_or ws k 0 - 1 → left ≡ 0 → insert_key nat_cmp (zeros ws) k ≡ zeros (one_less k ws)
counted_down k left ws l is none = put_from k 0 k ws (omega arith) l ∙ ap (λ n. zeros (set ws k n)) (sym none ∙ is)

pub still_waits : (k left : ℕ) (ws : List ℕ) → left ≡ get_or ws k 0 - 1 → left ≢ 0 → zeros ws ≡ zeros (one_less k ws)
still_waits k left ws is some =
    let e : (get_or ws k 0 - 1 == 0) ≡ false = grind (arith, nat_tests, is, some) in
    let h : (get_or ws k 0 == 0) ≡ false = grind (arith, nat_tests, is, some) in
    sym (still_from k 0 (get_or ws k 0 - 1) ws e h)

-- The first zero is taken.

record IsTaken (ws : List ℕ) (j k : ℕ) (ks : List ℕ) : Type 0 where
  at : ℕ
  is : k ≡ j + at
  within : at < length ws
  free : get_or ws at 0 ≡ 0
  left : zeros_from j (set ws at 1) ≡ ks

head_is : (a b : ℕ) (xs ys : List ℕ) → a ∷ xs ≡ b ∷ ys → a ≡ b
head_is a b xs ys e = cc

tail_is : (a b : ℕ) (xs ys : List ℕ) → a ∷ xs ≡ b ∷ ys → xs ≡ ys
tail_is a b xs ys e = cc

taken_from : (j k : ℕ) (ws ks : List ℕ) → zeros_from j ws ≡ k ∷ ks → IsTaken ws j k ks
taken_from j k [] ks e = absurd cc
taken_from j k (w ∷ ws) ks e = by (w == 0) refl e (taken_from (suc j) k ws ks)
  where
    by : (t : Bool) → (w == 0) ≡ t → cond t (j ∷ zeros_from (suc j) ws) (zeros_from (suc j) ws) ≡ k ∷ ks → (zeros_from (suc j) ws ≡ k ∷ ks → IsTaken ws (suc j) k ks) → IsTaken (w ∷ ws) j k ks
    by true h e ih =
        let first : j ≡ k = head_is j k (zeros_from (suc j) ws) ks e in
        record { at = 0; is = omega (arith, first); within = omega arith; free = is_zero w h; left = tail_is j k (zeros_from (suc j) ws) ks e }
    by false h e ih =
        let r = ih e in
        let i = r.is in
        let l = r.within in
        record {
          at = suc r.at;
          is = omega (arith, i);
          within = omega (arith, l);
          free = r.free;
          left = ap (λ t. cond t (j ∷ zeros_from (suc j) (set ws r.at 1)) (zeros_from (suc j) (set ws r.at 1))) h ∙ r.left;
        }

pub record IsFirst (ws : List ℕ) (k : ℕ) (ks : List ℕ) : Type 0 where
  pub within : k < length ws
  pub free : get_or ws k 0 ≡ 0
  pub left : ks ≡ zeros (one_more k ws)

pub first_taken : (k : ℕ) (ws ks : List ℕ) → zeros ws ≡ k ∷ ks → IsFirst ws k ks
first_taken k ws ks e =
    let r = taken_from 0 k ws ks e in
    let at : r.at ≡ k = let i = r.is in omega (arith, i) in
    let free : get_or ws k 0 ≡ 0 = subst (λ n. get_or ws n 0 ≡ 0) at r.free in
    let one : 1 ≡ get_or ws k 0 + 1 = omega (arith, free) in
    record {
      within = subst (λ n. n < length ws) at r.within;
      free = free;
      left = sym r.left ∙ (ap (λ n. zeros (set ws n 1)) at ∙ ap (λ n. zeros (set ws k n)) one);
    }

-- Zeros at the end of a list.

put_last : (j k : ℕ) (ws : List ℕ) → j + length ws ≤ k → insert_key nat_cmp (zeros_from j ws) k ≡ zeros_from j ws ++ k ∷ []
put_last j k [] h = refl
put_last j k (w ∷ ws) h = by (w == 0) (put_last (suc j) k ws (omega (arith, h)))
  where
    by : (t : Bool) → insert_key nat_cmp (zeros_from (suc j) ws) k ≡ zeros_from (suc j) ws ++ k ∷ [] → insert_key nat_cmp (cond t (j ∷ zeros_from (suc j) ws) (zeros_from (suc j) ws)) k ≡ cond t (j ∷ zeros_from (suc j) ws) (zeros_from (suc j) ws) ++ k ∷ []
    by true ih = put_behind k j (zeros_from (suc j) ws) (omega (arith, h)) ∙ ap (λ xs. j ∷ xs) ih
    by false ih = ih

zeros_more : (j w : ℕ) (ws : List ℕ) → zeros_from j (ws ++ w ∷ []) ≡ zeros_from j ws ++ cond (w == 0) ((j + length ws) ∷ []) []
zeros_more j w [] = let e : j ≡ j + 0 = omega arith in ap (λ n. cond (w == 0) (n ∷ []) []) e
zeros_more j w (x ∷ ws) = by (x == 0) (zeros_more (suc j) w ws) (let e : suc j + length ws ≡ j + suc (length ws) = omega arith in e)
  where
    by : (t : Bool) → zeros_from (suc j) (ws ++ w ∷ []) ≡ zeros_from (suc j) ws ++ cond (w == 0) ((suc j + length ws) ∷ []) [] → suc j + length ws ≡ j + suc (length ws)
        → cond t (j ∷ zeros_from (suc j) (ws ++ w ∷ [])) (zeros_from (suc j) (ws ++ w ∷ [])) ≡ cond t (j ∷ zeros_from (suc j) ws) (zeros_from (suc j) ws) ++ cond (w == 0) ((j + suc (length ws)) ∷ []) []
    by true ih e = ap (λ xs. j ∷ xs) ih ∙ ap (λ n. j ∷ zeros_from (suc j) ws ++ cond (w == 0) (n ∷ []) []) e
    by false ih e = ih ∙ ap (λ n. zeros_from (suc j) ws ++ cond (w == 0) (n ∷ []) []) e

taken_length : (k : ℕ) (ws : List ℕ) → k < length ws → length (take k ws) ≡ k
taken_length zero ws h = refl
taken_length (suc k) [] h = absurd (omega (arith, h))
taken_length (suc k) (w ∷ ws) h = ap suc (taken_length k ws (omega (arith, h)))

take_one : (k : ℕ) (ws : List ℕ) → k < length ws → take (k + 1) ws ≡ take k ws ++ get_or ws k 0 ∷ []
take_one zero [] h = absurd (omega (arith, h))
take_one zero (w ∷ ws) h = refl
take_one (suc k) [] h = absurd (omega (arith, h))
take_one (suc k) (w ∷ ws) h = let e : suc k + 1 ≡ suc (k + 1) = omega arith in ap (λ n. take n (w ∷ ws)) e ∙ ap (λ xs. w ∷ xs) (take_one k ws (omega (arith, h)))

pub ready_more : (k : ℕ) (ws : List ℕ) → k < length ws → get_or ws k 0 ≡ 0 → insert_key nat_cmp (zeros (take k ws)) k ≡ zeros (take (k + 1) ws)
ready_more k ws h none =
    let l = taken_length k ws h in
    let at : k ≡ 0 + length (take k ws) = omega (arith, l) in
    put_last 0 k (take k ws) (omega (arith, l))
    ∙ (ap (λ n. zeros (take k ws) ++ n ∷ []) at
    ∙ (sym (zeros_more 0 (get_or ws k 0) (take k ws) ∙ ap (λ n. zeros (take k ws) ++ cond (n == 0) ((0 + length (take k ws)) ∷ []) []) none)
    ∙ ap zeros (sym (take_one k ws h))))

pub ready_same : (k : ℕ) (ws : List ℕ) → k < length ws → (get_or ws k 0 == 0) ≡ false → zeros (take k ws) ≡ zeros (take (k + 1) ws)
ready_same k ws h some =
    sym (append-nil (zeros (take k ws)))
    ∙ (sym (zeros_more 0 (get_or ws k 0) (take k ws) ∙ ap (λ t. zeros (take k ws) ++ cond t ((0 + length (take k ws)) ∷ []) []) some)
    ∙ ap zeros (sym (take_one k ws h)))

pub ready_next : (k : ℕ) (ws keys : List ℕ) → k < length ws → keys ≡ zeros (take k ws) → noted k (get_or ws k 0) keys ≡ zeros (take (k + 1) ws)
ready_next k ws keys h is = ap (noted k (get_or ws k 0)) is ∙ by (nat_lt 0 (get_or ws k 0)) refl
  where
    by : (t : Bool) → nat_lt 0 (get_or ws k 0) ≡ t → cond t (zeros (take k ws)) (insert_key nat_cmp (zeros (take k ws)) k) ≡ zeros (take (k + 1) ws)
    by true e = ready_same k ws h (grind (arith, nat_tests, e))
    by false e = ready_more k ws h (grind (arith, nat_tests, e))

pub ready_whole : (k : ℕ) (ws : List ℕ) → length ws ≤ k → take k ws ≡ ws
ready_whole zero [] h = refl
ready_whole zero (w ∷ ws) h = absurd (omega (arith, h))
ready_whole (suc k) [] h = refl
ready_whole (suc k) (w ∷ ws) h = ap (λ xs. w ∷ xs) (ready_whole k ws (omega (arith, h)))

-- Counts, one by one.

abbrev pub count_of : ℕ → List ℕ → ℕ
count_of i [] = 0
count_of i (k ∷ ks) = cond (nat_eq k i) 1 0 + count_of i ks

less_at : (k i : ℕ) (ws : List ℕ) → k < length ws → get_or (one_less k ws) i 0 ≡ get_or ws i 0 - cond (nat_eq k i) 1 0
less_at k i ws l = by (nat_eq k i) refl
  where
    by : (t : Bool) → nat_eq k i ≡ t → get_or (one_less k ws) i 0 ≡ get_or ws i 0 - cond t 1 0
    by true e = let h = eq_is k i e in subst (λ n. get_or (one_less k ws) n 0 ≡ get_or ws n 0 - 1) h (get_or-set_same ws k (get_or ws k 0 - 1) 0 l)
    by false e = let h = eq_not k i e in let w = get_or-set_other ws k i (get_or ws k 0 - 1) 0 (λ x. h (sym x)) in let z : get_or ws i 0 ≡ get_or ws i 0 - 0 = omega arith in w ∙ z

more_at : (k i : ℕ) (ws : List ℕ) → k < length ws → get_or (one_more k ws) i 0 ≡ get_or ws i 0 + cond (nat_eq k i) 1 0
more_at k i ws l = by (nat_eq k i) refl
  where
    by : (t : Bool) → nat_eq k i ≡ t → get_or (one_more k ws) i 0 ≡ get_or ws i 0 + cond t 1 0
    by true e = let h = eq_is k i e in subst (λ n. get_or (one_more k ws) n 0 ≡ get_or ws n 0 + 1) h (get_or-set_same ws k (get_or ws k 0 + 1) 0 l)
    by false e = let h = eq_not k i e in let w = get_or-set_other ws k i (get_or ws k 0 + 1) 0 (λ x. h (sym x)) in let z : get_or ws i 0 ≡ get_or ws i 0 + 0 = omega arith in w ∙ z

abbrev pub AreBelow : ℕ → List ℕ → Type 0
AreBelow n ks = AllByRecursion (λ k. k < n) ks

below_same : (m n : ℕ) (ks : List ℕ) → m ≡ n → AreBelow m ks → AreBelow n ks
below_same m n ks e h = subst (λ n. AreBelow n ks) e h

less_by_length : (ks ws : List ℕ) → length (less_by ks ws) ≡ length ws
less_by_length [] ws = refl
less_by_length (k ∷ ks) ws = less_by_length ks (one_less k ws) ∙ length-set ws k (get_or ws k 0 - 1)

less_by_at : (i : ℕ) (ks ws : List ℕ) → AreBelow (length ws) ks → get_or (less_by ks ws) i 0 ≡ get_or ws i 0 - count_of i ks
less_by_at i [] ws h = omega arith
less_by_at i (k ∷ ks) ws h =
    let more = less_by_at i ks (one_less k ws) (below_same (length ws) (length (one_less k ws)) ks (sym (length-set ws k (get_or ws k 0 - 1))) h.1) in
    let one = less_at k i ws h.0 in
    omega (arith, more, one)

-- Pairs.

abbrev pub IsWithin : ℕ → Pair → Type 0
IsWithin n p = (p.before < n) × (p.behind < n)

abbrev pub AreWithin : ℕ → List Pair → Type 0
AreWithin n ps = AllByRecursion (IsWithin n) ps

pub followers_below : (n k : ℕ) (ps : List Pair) → AreWithin n ps → AreBelow n (followers ps k)
followers_below n k [] h = tt
followers_below n k (p ∷ ps) h = by (nat_eq p.before k) (followers_below n k ps h.1)
  where
    by : (t : Bool) → AreBelow n (followers ps k) → AreBelow n (cond t (p.behind ∷ followers ps k) (followers ps k))
    by true ih = (h.0.1, ih)
    by false ih = ih

abbrev behind_count : ℕ → List Pair → ℕ
behind_count i [] = 0
behind_count i (p ∷ ps) = cond (nat_eq p.behind i) 1 0 + behind_count i ps

pub more_by_length : (ps : List Pair) (ws : List ℕ) → length (more_by ps ws) ≡ length ws
more_by_length [] ws = refl
more_by_length (p ∷ ps) ws = more_by_length ps (one_more p.behind ws) ∙ length-set ws p.behind (get_or ws p.behind 0 + 1)

more_by_at : (n i : ℕ) (ps : List Pair) (ws : List ℕ) → length ws ≡ n → AreWithin n ps → get_or (more_by ps ws) i 0 ≡ get_or ws i 0 + behind_count i ps
more_by_at n i [] ws len h = omega arith
more_by_at n i (p ∷ ps) ws len h =
    let more = more_by_at n i ps (one_more p.behind ws) (length-set ws p.behind (get_or ws p.behind 0 + 1) ∙ len) h.1 in
    let one = more_at p.behind i ws (subst (λ m. p.behind < m) (sym len) h.0.1) in
    omega (arith, more, one)

blocked_first : (i : ℕ) (ps : List Pair) → blocked [] ps i ≡ behind_count i ps
blocked_first i [] = refl
blocked_first i (p ∷ ps) = by (nat_eq p.behind i) (blocked_first i ps)
  where
    by : (t : Bool) → blocked [] ps i ≡ behind_count i ps → cond (t && true) (suc (blocked [] ps i)) (blocked [] ps i) ≡ cond t 1 0 + behind_count i ps
    by true e = omega (arith, e)
    by false e = omega (arith, e)

zero_at : (n i : ℕ) → get_or (replicate n zero) i zero ≡ zero
zero_at zero i = refl
zero_at (suc n) zero = refl
zero_at (suc n) (suc i) = zero_at n i

zeros_length : (n : ℕ) → length (replicate n (zero)) ≡ n
zeros_length zero = refl
zeros_length (suc n) = ap suc (zeros_length n)

-- a list is what a function gives at each place
list_from : (j n : ℕ) (f : ℕ → ℕ) (ws : List ℕ) → length ws ≡ n → ((i : ℕ) → get_or ws i 0 ≡ f (j + i) ⊎ (n ≤ i)) → ws ≡ map f (from_on j n)
list_from j zero f [] len each = refl
list_from j zero f (w ∷ ws) len each = absurd (omega (arith, len))
list_from j (suc n) f [] len each = absurd (omega (arith, len))
list_from j (suc n) f (w ∷ ws) len each =
    let here : j + 0 ≡ j = omega arith in
    ap (λ x. x ∷ ws) (head (each 0) ∙ ap f here) ∙ ap (λ xs. f j ∷ xs) (list_from (suc j) n f ws (omega (arith, len)) (λ i. let next : j + suc i ≡ suc j + i = omega arith in later i next (each (suc i))))
  where
    head : (w ≡ f (j + 0)) ⊎ (suc n ≤ 0) → w ≡ f (j + 0)
    head (inl e) = e
    head (inr l) = absurd (omega (arith, l))

    later : (i : ℕ) → j + suc i ≡ suc j + i → (get_or ws i 0 ≡ f (j + suc i)) ⊎ (suc n ≤ suc i) → (get_or ws i 0 ≡ f (suc j + i)) ⊎ (n ≤ i)
    later i next (inl e) = inl (e ∙ ap f next)
    later i next (inr l) = inr (omega (arith, l))

pub map_length : (j n : ℕ) (f : ℕ → ℕ) → length (map f (from_on j n)) ≡ n
map_length j zero f = refl
map_length j (suc n) f = ap suc (map_length (suc j) n f)

map_at : (j n i : ℕ) (f : ℕ → ℕ) → i < n → get_or (map f (from_on j n)) i 0 ≡ f (j + i)
map_at j zero i f l = absurd (omega (arith, l))
map_at j (suc n) zero f l = let e : j ≡ j + 0 = omega arith in ap f e
map_at j (suc n) (suc i) f l = let e : suc j + i ≡ j + suc i = omega arith in map_at (suc j) n i f (omega (arith, l)) ∙ ap f e

-- at first each waits for all that must stand before it
pub waits_first : (count : ℕ) (ps : List Pair) → AreWithin count ps → more_by ps (replicate count 0) ≡ map (blocked [] ps) (from_on 0 count)
waits_first count ps h =
    list_from 0 count (blocked [] ps) (more_by ps (replicate count 0)) (more_by_length ps (replicate count 0) ∙ zeros_length count)
    (λ i. inl (let a = more_by_at count i ps (replicate count 0) (zeros_length count) h in let z = zero_at count i in let b = blocked_first i ps in let w : get_or (more_by ps (replicate count 0)) i 0 ≡ blocked [] ps i = omega (arith, a, z, b) in let e : i ≡ 0 + i = omega arith in w ∙ ap (blocked [] ps) e))

-- One more stands.

stands_more : (done : List ℕ) (k i : ℕ) → stands (done ++ k ∷ []) i ≡ stands done i || nat_eq i k
stands_more [] k i = by (nat_eq i k)
  where
    by : (t : Bool) → t || false ≡ t
    by true = refl
    by false = refl
stands_more (d ∷ done) k i = by (nat_eq i d) (stands_more done k i)
  where
    by : (t : Bool) → stands (done ++ k ∷ []) i ≡ stands done i || nat_eq i k → t || stands (done ++ k ∷ []) i ≡ (t || stands done i) || nat_eq i k
    by true e = refl
    by false e = e

-- one that stands isn't free
pub free_is_left : (done : List ℕ) (ps : List Pair) (k : ℕ) → blocked done ps k ≡ 0 → stands done k ≡ false
free_is_left done [] k e = by (stands done k) e
  where
    by : (t : Bool) → cond {A = ℕ} t 1 0 ≡ 0 → t ≡ false
    by true e = absurd (omega (arith, e))
    by false e = refl
free_is_left done (p ∷ ps) k e = by (nat_eq p.behind k && not (stands done p.before)) e (free_is_left done ps k)
  where
    by : (t : Bool) → cond t (suc (blocked done ps k)) (blocked done ps k) ≡ 0 → (blocked done ps k ≡ 0 → stands done k ≡ false) → stands done k ≡ false
    by true e ih = absurd (omega (arith, e))
    by false e ih = ih e

eq_swap : (a b : ℕ) → nat_eq a b ≡ nat_eq b a
eq_swap a b = by (nat_eq a b) refl
  where
    by : (t : Bool) → nat_eq a b ≡ t → t ≡ nat_eq b a
    by true e = let h = eq_is a b e in let w : nat_eq b a ≡ true = grind (arith, nat_tests, h) in sym w
    by false e = let h = eq_not a b e in let w : nat_eq b a ≡ false = grind (arith, nat_tests, h) in sym w

counts_move : (done : List ℕ) (k i : ℕ) (ps : List Pair) → stands done k ≡ false → blocked (done ++ k ∷ []) ps i + count_of i (followers ps k) ≡ blocked done ps i + cond (nat_eq k i) 1 0
counts_move done k i [] new = ap (λ t. cond t 1 0 + 0) (stands_more done k i) ∙ by (stands done i) refl (nat_eq i k) refl ∙ ap (λ t. cond (stands done i) 1 0 + cond t 1 0) (eq_swap i k)
  where
    by : (s : Bool) → stands done i ≡ s → (t : Bool) → nat_eq i k ≡ t → cond (s || t) 1 0 + 0 ≡ cond s 1 0 + cond t 1 0
    by true h true e = absurd (let w : stands done k ≡ true = subst (λ n. stands done n ≡ true) (eq_is i k e) h in cc)
    by true h false e = refl
    by false h true e = refl
    by false h false e = refl
counts_move done k i (p ∷ ps) new =
    ap (λ s. cond (nat_eq p.behind i && not s) (suc (blocked (done ++ k ∷ []) ps i)) (blocked (done ++ k ∷ []) ps i) + count_of i (cond (nat_eq p.before k) (p.behind ∷ followers ps k) (followers ps k))) (stands_more done k p.before)
    ∙ by (nat_eq p.behind i) refl (stands done p.before) refl (nat_eq p.before k) refl (counts_move done k i ps new)
  where
    B : ℕ
    B = blocked (done ++ k ∷ []) ps i

    F : List ℕ
    F = followers ps k

    by : (b : Bool) → nat_eq p.behind i ≡ b → (s : Bool) → stands done p.before ≡ s → (q : Bool) → nat_eq p.before k ≡ q → blocked (done ++ k ∷ []) ps i + count_of i (followers ps k) ≡ blocked done ps i + cond (nat_eq k i) 1 0
        → cond (b && not (s || q)) (suc (blocked (done ++ k ∷ []) ps i)) (blocked (done ++ k ∷ []) ps i) + count_of i (cond q (p.behind ∷ followers ps k) (followers ps k)) ≡ cond (b && not s) (suc (blocked done ps i)) (blocked done ps i) + cond (nat_eq k i) 1 0
    by b hb true hs true hq ih = absurd (let w : stands done k ≡ true = subst (λ n. stands done n ≡ true) (eq_is p.before k hq) hs in cc)
    by false hb true hs false hq ih = ih
    by true hb true hs false hq ih = ih
    by false hb false hs false hq ih = ih
    by true hb false hs false hq ih = (let w : suc (blocked (done ++ k ∷ []) ps i) + count_of i (followers ps k) ≡ suc (blocked done ps i) + cond (nat_eq k i) 1 0 = omega (arith, ih) in w)
    by false hb false hs true hq ih = ap (λ t. blocked (done ++ k ∷ []) ps i + (cond t 1 0 + count_of i (followers ps k))) hb ∙ (let w : blocked (done ++ k ∷ []) ps i + (0 + count_of i (followers ps k)) ≡ blocked done ps i + cond (nat_eq k i) 1 0 = omega (arith, ih) in w)
    by true hb false hs true hq ih = ap (λ t. blocked (done ++ k ∷ []) ps i + (cond t 1 0 + count_of i (followers ps k))) hb ∙ (let w : blocked (done ++ k ∷ []) ps i + (1 + count_of i (followers ps k)) ≡ suc (blocked done ps i) + cond (nat_eq k i) 1 0 = omega (arith, ih) in w)

below_or : (i n : ℕ) → (i < n) ⊎ (n ≤ i)
below_or zero zero = inr (omega arith)
below_or zero (suc n) = inl (omega arith)
below_or (suc i) zero = inr (omega arith)
below_or (suc i) (suc n) = by (below_or i n)
  where
    by : (i < n) ⊎ (n ≤ i) → (suc i < suc n) ⊎ (suc n ≤ suc i)
    by (inl l) = inl (omega (arith, l))
    by (inr l) = inr (omega (arith, l))

-- what each waits for once one more is taken
pub waits_next : (count k : ℕ) (done : List ℕ) (ps : List Pair) (ws : List ℕ) → AreWithin count ps → k < count → ws ≡ map (blocked done ps) (from_on 0 count) → get_or ws k 0 ≡ 0
    → less_by (followers ps k) (one_more k ws) ≡ map (blocked (done ++ k ∷ []) ps) (from_on 0 count)
waits_next count k done ps ws h l is free =
    list_from 0 count (blocked (done ++ k ∷ []) ps) (less_by (followers ps k) (one_more k ws)) (less_by_length (followers ps k) (one_more k ws) ∙ (length-set ws k (get_or ws k 0 + 1) ∙ len))
    (λ i. at i (below_or i count))
  where
    len : length ws ≡ count
    len = ap length is ∙ map_length 0 count (blocked done ps)

    new : stands done k ≡ false
    new = free_is_left done ps k (let e : 0 + k ≡ k = omega arith in sym (ap (blocked done ps) e) ∙ (sym (map_at 0 count k (blocked done ps) l) ∙ (ap (λ xs. get_or xs k 0) (sym is) ∙ free)))

    at : (i : ℕ) → (i < count) ⊎ (count ≤ i) → (get_or (less_by (followers ps k) (one_more k ws)) i 0 ≡ blocked (done ++ k ∷ []) ps (0 + i)) ⊎ (count ≤ i)
    at i (inr g) = inr g
    at i (inl s) =
        let within : k < length ws = subst (λ n. k < n) (sym len) l in
        let a = less_by_at i (followers ps k) (one_more k ws) (below_same count (length (one_more k ws)) (followers ps k) (sym (length-set ws k (get_or ws k 0 + 1) ∙ len)) (followers_below count k ps h)) in
        let b = more_at k i ws within in
        let c : get_or ws i 0 ≡ blocked done ps i = let e : 0 + i ≡ i = omega arith in ap (λ xs. get_or xs i 0) is ∙ (map_at 0 count i (blocked done ps) s ∙ ap (blocked done ps) e) in
        let d = counts_move done k i ps new in
        let e : i ≡ 0 + i = omega arith in
        let w : get_or (less_by (followers ps k) (one_more k ws)) i 0 ≡ blocked (done ++ k ∷ []) ps i = omega (arith, a, b, c, d) in
        inl (w ∙ ap (blocked (done ++ k ∷ []) ps) e)

-- Which are free.

zeros_are : (j n : ℕ) (f : ℕ → ℕ) → zeros_from j (map f (from_on j n)) ≡ filter (λ k. f k == 0) (from_on j n)
zeros_are j zero f = refl
zeros_are j (suc n) f = ap (λ xs. cond (f j == 0) (j ∷ xs) xs) (zeros_are (suc j) n f)

pub ready_are : (count : ℕ) (done : List ℕ) (ps : List Pair) (ws : List ℕ) → ws ≡ map (blocked done ps) (from_on 0 count) → zeros ws ≡ free_in count ps done
ready_are count done ps ws is = ap zeros is ∙ zeros_are 0 count (blocked done ps)

left_one : (count i : ℕ) → i < count → count - i ≡ suc (count - (i + 1))
left_one count i lt = omega arith

pub next_taken : (count i k : ℕ) (done ks all : List ℕ) (ps : List Pair) → i < count → free_in count ps done ≡ k ∷ ks → order_from (count - i) count ps done ≡ all → order_from (count - (i + 1)) count ps (done ++ k ∷ []) ≡ all
next_taken count i k done ks all ps lt is so_far =
    sym (ap (λ n. order_from n count ps done) (left_one count i lt) ∙ ap (taken_next (order_from (count - (i + 1)) count ps) done) is) ∙ so_far

pub none_taken : (count i : ℕ) (done all : List ℕ) (ps : List Pair) → i < count → free_in count ps done ≡ [] → order_from (count - i) count ps done ≡ all → done ≡ all
none_taken count i done all ps lt is so_far =
    sym (ap (λ n. order_from n count ps done) (left_one count i lt) ∙ ap (taken_next (order_from (count - (i + 1)) count ps) done) is) ∙ so_far

pub all_are_taken : (count i : ℕ) (done all : List ℕ) (ps : List Pair) → count ≤ i → order_from (count - i) count ps done ≡ all → done ≡ all
all_are_taken count i done all ps le so_far = let none : count - i ≡ 0 = omega arith in sym (ap (λ n. order_from n count ps done) none) ∙ so_far

-- Loops over a list.

pub drop_one : {A : Type 0} (i : ℕ) (xs : List A) (d : A) → i < length xs → drop i xs ≡ get_or xs i d ∷ drop (i + 1) xs
drop_one i [] d h = absurd (omega (arith, h))
drop_one zero (x ∷ xs) d h = refl
drop_one (suc i) (x ∷ xs) d h = let e : suc (i + 1) ≡ suc i + 1 = omega arith in drop_one i xs d (omega (arith, h)) ∙ ap (λ n. get_or xs i d ∷ drop n (x ∷ xs)) e

pub drop_all : {A : Type 0} (i : ℕ) (xs : List A) → length xs ≤ i → drop i xs ≡ []
drop_all zero [] h = refl
drop_all zero (x ∷ xs) h = absurd (omega (arith, h))
drop_all (suc i) [] h = refl
drop_all (suc i) (x ∷ xs) h = drop_all i xs (omega (arith, h))

pub less_step : (i : ℕ) (ks ws all : List ℕ) → i < length ks → less_by (drop i ks) ws ≡ all → less_by (drop (i + 1) ks) (one_less (get_or ks i 0) ws) ≡ all
less_step i ks ws all l so_far = sym (ap (λ xs. less_by xs ws) (drop_one i ks 0 l)) ∙ so_far

-- Rows.

row_here : (rows : List (List ℕ)) (k : ℕ) (row : List ℕ) → k < length rows → of_index k (set rows k row) ≡ row
row_here [] k row h = absurd (omega (arith, h))
row_here (r ∷ rows) zero row h = refl
row_here (r ∷ rows) (suc k) row h = row_here rows k row (omega (arith, h))

row_else : (rows : List (List ℕ)) (k j : ℕ) (row : List ℕ) → k ≢ j → of_index j (set rows k row) ≡ of_index j rows
row_else [] k j row h = refl
row_else (r ∷ rows) zero zero row h = absurd (h refl)
row_else (r ∷ rows) zero (suc j) row h = refl
row_else (r ∷ rows) (suc k) zero row h = refl
row_else (r ∷ rows) (suc k) (suc j) row h = row_else rows k j row (λ e. h (ap suc e))

row_set : (rows : List (List ℕ)) (k j : ℕ) (row : List ℕ) → k < length rows → of_index j (set rows k row) ≡ cond (nat_eq k j) row (of_index j rows)
row_set rows k j row h = by (nat_eq k j) refl
  where
    by : (t : Bool) → nat_eq k j ≡ t → of_index j (set rows k row) ≡ cond t row (of_index j rows)
    by true e = subst (λ n. of_index n (set rows k row) ≡ row) (eq_is k j e) (row_here rows k row h)
    by false e = row_else rows k j row (eq_not k j e)

pub row_step : (i j : ℕ) (p : Pair) (ps : List Pair) (rows : List (List ℕ)) (all : List ℕ) → i < length ps → p ≡ get_or ps i p → p.before < length rows → of_index j rows ++ followers (drop i ps) j ≡ all
    → of_index j (set rows p.before (of_index p.before rows ++ p.behind ∷ [])) ++ followers (drop (i + 1) ps) j ≡ all
row_step i j p ps rows all l is within so_far =
    ap (λ xs. xs ++ followers (drop (i + 1) ps) j) (row_set rows p.before j (of_index p.before rows ++ p.behind ∷ []) within)
    ∙ (by (nat_eq p.before j) refl
    ∙ (sym (ap (λ xs. of_index j rows ++ followers xs j) (drop_one i ps p l) ∙ ap (λ (q : Pair). of_index j rows ++ cond (nat_eq q.before j) (q.behind ∷ followers (drop (i + 1) ps) j) (followers (drop (i + 1) ps) j)) (sym is)) ∙ so_far))
  where
    by : (t : Bool) → nat_eq p.before j ≡ t → cond t (of_index p.before rows ++ p.behind ∷ []) (of_index j rows) ++ followers (drop (i + 1) ps) j ≡ of_index j rows ++ cond t (p.behind ∷ followers (drop (i + 1) ps) j) (followers (drop (i + 1) ps) j)
    by true e = ap (λ n. (of_index n rows ++ p.behind ∷ []) ++ followers (drop (i + 1) ps) j) (eq_is p.before j e) ∙ append_assoc (of_index j rows) (p.behind ∷ []) (followers (drop (i + 1) ps) j)
    by false e = refl

-- what stands at a place doesn't rest on what would be given in its stead
pub get_any : {A : Type 0} (i : ℕ) (xs : List A) (d e : A) → i < length xs → get_or xs i d ≡ get_or xs i e
get_any i [] d e h = absurd (omega (arith, h))
get_any zero (x ∷ xs) d e h = refl
get_any (suc i) (x ∷ xs) d e h = get_any i xs d e (omega (arith, h))

pub row_added : (rows : List (List ℕ)) (k : ℕ) (old : List ℕ) → k < length rows → old ≡ get_or rows k old → old ≡ of_index k rows
row_added [] k old h e = absurd (omega (arith, h))
row_added (r ∷ rows) zero old h e = e
row_added (r ∷ rows) (suc k) old h e = row_added rows k old (omega (arith, h)) e

pub no_row_more : (rows : List (List ℕ)) (k : ℕ) → ((j : ℕ) → of_index j rows ≡ []) → of_index k (rows ++ [] ∷ []) ≡ []
no_row_more [] zero h = refl
no_row_more [] (suc k) h = refl
no_row_more (r ∷ rows) zero h = h 0
no_row_more (r ∷ rows) (suc k) h = no_row_more rows k (λ j. h (suc j))

pub below_all : (count k : ℕ) (ps : List Pair) (row ws : List ℕ) → AreWithin count ps → row ≡ followers ps k → length ws ≡ count → All (λ j. j < length ws) row
below_all count k ps row ws h is len =
    All-from_recursion (λ j. j < length ws) row (subst (λ xs. AllByRecursion (λ j. j < length ws) xs) (sym is) (subst (λ n. AllByRecursion (λ j. j < n) (followers ps k)) (sym len) (followers_below count k ps h)))

pub no_keys : (ks : List ℕ) → (0 < length ks → ⊥) → ks ≡ []
no_keys [] h = refl
no_keys (k ∷ ks) h = absurd (h (omega arith))

-- All, or none.

pub all_there : (count : ℕ) (ps : List Pair) (order : List ℕ) → order ≡ order_from count count ps [] → length order ≡ count → order_in count ps ≡ Some order
unfolding order_in
all_there count ps order is len =
    let e : (length order == count) ≡ true = grind (arith, nat_tests, len) in
    ap (all_or_none count) (sym is) ∙ ap (λ t. cond t (Some order) None) e

pub some_left : (count : ℕ) (ps : List Pair) (order : List ℕ) → order ≡ order_from count count ps [] → length order ≢ count → order_in count ps ≡ None
unfolding order_in
some_left count ps order is len =
    let e : (length order == count) ≡ false = grind (arith, nat_tests, len) in
    ap (all_or_none count) (sym is) ∙ ap (λ t. cond t (Some order) None) e
