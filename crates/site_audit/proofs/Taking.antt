-- With gates among them things are taken in the same order.
use Rattle.std.proofs.Common.{◌≡◌, ◌≢◌, ◌==◌, ◌&&◌, ◌||◌, ◌+◌, ◌-◌, ◌<◌, ◌≤◌, ℕ, zero, suc, nat_eq, nat_lt, Bool, true, false, cond, not, List, [], ◌∷◌, ◌++◌, length, map, filter, refl, sym, ap, ◌∙◌, subst, arith, append-nil, All, IsPermutation, Some, None, ◌⊎◌, inl, inr}
use Rattle.std.proofs.lemmas.Bool.{cases_order}
use Rattle.std.proofs.lemmas.Bool.Decides.{nat_tests}
use Rattle.std.proofs.lemmas.List.Elements.{filter-append, recursion_from_All}
use Rattle.std.proofs.lemmas.List.Sorted.{list_any-IsPermutation}
use Rattle.std.specs.List.{AllByRecursion, list_any}
use Rattle.std.specs.List.Sorted.{IsNonDecreasingBy}
use Rattle.run_meaning.specs.Turns.{from_on}
use Rattle.site_audit.specs.Order.{all_or_none, stands, blocked, free_in, taken_next, order_from, order_in}
use Rattle.site_audit.specs.Tracks.{is_earlier, is_held, waits, ready, taken_from, taken_in, things_of, gate_pairs}
use Rattle.site_audit.specs.declared.order.Pair.{Pair}
use Rattle.site_audit.specs.declared.tracks.Spot.{Spot}
use Rattle.site_audit.proofs.Gates.{eq_is, eq_not, is_eq, not_eq, lt_is, lt_not, is_lt, not_lt, or_false, free_is_left, stands_more, AreClosed, closed_first, closed_more, HasNoGate, gates_from, taken_at_first}
use Rattle.site_audit.proofs.Walk.{AreSorted, in_order, thing_free}

-- How many are left.

abbrev left_in : (ℕ → Bool) → ℕ → ℕ → ℕ
left_in st a zero = 0
left_in st a (suc c) = cond (st a) 0 1 + left_in st (suc a) c

left_split : (st : ℕ → Bool) (a b c : ℕ) → left_in st a (b + c) ≡ left_in st a b + left_in st (a + b) c
left_split st a zero c = let z : 0 + c ≡ c = omega arith in let y : a ≡ a + 0 = omega arith in ap (left_in st a) z ∙ (ap (λ n. left_in st n c) y ∙ (let w : left_in st (a + 0) c ≡ 0 + left_in st (a + 0) c = omega arith in w))
left_split st a (suc b) c =
    let e : suc b + c ≡ suc (b + c) = omega arith in
    let f : suc a + b ≡ a + suc b = omega arith in
    let ih = left_split st (suc a) b c ∙ ap (λ n. left_in st (suc a) b + left_in st n c) f in
    ap (left_in st a) e ∙ (let w : cond (st a) 0 1 + left_in st (suc a) (b + c) ≡ cond (st a) 0 1 + left_in st (suc a) b + left_in st (a + suc b) c = omega (arith, ih) in w)

left_shift : (st tt' : ℕ → Bool) (m a c : ℕ) → ((i : ℕ) → st (m + i) ≡ tt' i) → left_in st (m + a) c ≡ left_in tt' a c
left_shift st tt' m a zero h = refl
left_shift st tt' m a (suc c) h = let e : suc (m + a) ≡ m + suc a = omega arith in ap (λ t. cond t 0 1 + left_in st (suc (m + a)) c) (h a) ∙ ap (λ n. cond (tt' a) 0 1 + n) (ap (λ n. left_in st n c) e ∙ left_shift st tt' m (suc a) c h)

left_none : (a c : ℕ) → left_in (λ k. false) a c ≡ c
left_none a zero = refl
left_none a (suc c) = let ih = left_none (suc a) c in omega (arith, ih)

left_all : (st : ℕ → Bool) (a c : ℕ) → ((i : ℕ) → a ≤ i → i < a + c → st i ≡ true) → left_in st a c ≡ 0
left_all st a zero h = refl
left_all st a (suc c) h = ap (λ t. cond t 0 1 + left_in st (suc a) c) (h a (omega arith) (omega arith)) ∙ (let ih = left_all st (suc a) c (λ i l w. h i (omega (arith, l)) (omega (arith, w))) in omega (arith, ih))

cond_zero : (t : Bool) (n : ℕ) → cond t 0 1 + n ≡ 0 → (t ≡ true) × (n ≡ 0)
cond_zero true n e = (refl, omega (arith, e))
cond_zero false n e = absurd (omega (arith, e))

all_left : (st : ℕ → Bool) (a c : ℕ) → left_in st a c ≡ 0 → (i : ℕ) → a ≤ i → i < a + c → st i ≡ true
all_left st a zero e i l w = absurd (omega (arith, l, w))
all_left st a (suc c) e i l w = by (cases_order a i) (λ g. all_left st (suc a) c z.1 i (omega (arith, g)) (omega (arith, w)))
  where
    z : (st a ≡ true) × (left_in st (suc a) c ≡ 0)
    z = cond_zero (st a) (left_in st (suc a) c) e

    by : (a ≡ i) ⊎ ((a < i) ⊎ (i < a)) → (a < i → st i ≡ true) → st i ≡ true
    by (inl s) more = subst (λ n. st n ≡ true) s z.0
    by (inr (inl g)) more = more g
    by (inr (inr g)) more = absurd (omega (arith, g, l))

module _ (st : ℕ → Bool) (k : ℕ) where
  abbrev with_one : ℕ → Bool
  with_one i = st i || nat_eq i k

  left_past : (a c : ℕ) → k < a → left_in st a c ≡ left_in with_one a c
  left_past a zero l = refl
  left_past a (suc c) l =
      ap (λ t. cond t 0 1 + left_in st (suc a) c) (sym (ap (λ t. st a || t) (not_eq a k (λ e. absurd (omega (arith, e, l)))) ∙ or_false (st a)))
      ∙ ap (λ n. cond (with_one a) 0 1 + n) (left_past (suc a) c (omega (arith, l)))

  left_one : (a c : ℕ) → a ≤ k → k < a + c → st k ≡ false → left_in st a c ≡ suc (left_in with_one a c)
  left_one a zero l w new = absurd (omega (arith, l, w))
  left_one a (suc c) l w new = by (cases_order a k) (λ g. left_one (suc a) c (omega (arith, g)) (omega (arith, w)) new)
    where
      here : a ≡ k → left_in st a (suc c) ≡ suc (left_in with_one a (suc c))
      here e =
          let own : st a ≡ false = subst (λ n. st n ≡ false) (sym e) new in
          let past = left_past (suc a) c (omega (arith, e)) in
          let a1 : cond {A = ℕ} (st a) 0 1 ≡ 1 = ap (λ t. cond t 0 1) own in
          let a2 : cond {A = ℕ} (with_one a) 0 1 ≡ 0 = ap (λ t. cond t 0 1) (ap (λ t. t || nat_eq a k) own ∙ is_eq a k e) in
          omega (arith, past, a1, a2)

      by : (a ≡ k) ⊎ ((a < k) ⊎ (k < a)) → (a < k → left_in st (suc a) c ≡ suc (left_in with_one (suc a) c)) → left_in st a (suc c) ≡ suc (left_in with_one a (suc c))
      by (inl e) more = here e
      by (inr (inl g)) more =
          let ih = more g in
          let same : cond {A = ℕ} (with_one a) 0 1 ≡ cond (st a) 0 1 = ap (λ t. cond t 0 1) (ap (λ t. st a || t) (not_eq a k (λ e. absurd (omega (arith, e, g)))) ∙ or_false (st a)) in
          omega (arith, ih, same)
      by (inr (inr g)) more = absurd (omega (arith, g, l))

left_taken : (D : List ℕ) (k c : ℕ) → k < c → stands D k ≡ false → left_in (stands D) 0 c ≡ suc (left_in (stands (D ++ k ∷ [])) 0 c)
left_taken D k c l new =
    left_one (stands D) k 0 c (omega arith) (omega (arith, l)) new ∙ ap (λ (f : ℕ → Bool). suc (left_in f 0 c)) (λ i n. sym (stands_more D k n) i)

-- Numbers that pass a test.

record IsIn (f : ℕ → Bool) (a c k : ℕ) : Type 0 where
  passes : f k ≡ true
  from : a ≤ k
  below : k < a + c

head_is : (a b : ℕ) (xs ys : List ℕ) → a ∷ xs ≡ b ∷ ys → a ≡ b
head_is a b xs ys e = cc

first_in : (f : ℕ → Bool) (a c k : ℕ) (ks : List ℕ) → filter f (from_on a c) ≡ k ∷ ks → IsIn f a c k
first_in f a zero k ks e = absurd cc
first_in f a (suc c) k ks e = by (f a) refl e (first_in f (suc a) c k ks)
  where
    by : (t : Bool) → f a ≡ t → cond t (a ∷ filter f (from_on (suc a) c)) (filter f (from_on (suc a) c)) ≡ k ∷ ks → (filter f (from_on (suc a) c) ≡ k ∷ ks → IsIn f (suc a) c k) → IsIn f a (suc c) k
    by true h e ih = let s = head_is a k (filter f (from_on (suc a) c)) ks e in record { passes = subst (λ n. f n ≡ true) s h; from = omega (arith, s); below = omega (arith, s) }
    by false h e ih = let r = ih e in let l = r.from in let w = r.below in record { passes = r.passes; from = omega (arith, l); below = omega (arith, w) }

nothing_in : (f : ℕ → Bool) (a c : ℕ) → filter f (from_on a c) ≡ [] → (i : ℕ) → a ≤ i → i < a + c → f i ≡ false
nothing_in f a zero e i l w = absurd (omega (arith, l, w))
nothing_in f a (suc c) e i l w = by (f a) refl e (cases_order a i) (λ e' g. nothing_in f (suc a) c e' i (omega (arith, g)) (omega (arith, w)))
  where
    by : (t : Bool) → f a ≡ t → cond t (a ∷ filter f (from_on (suc a) c)) (filter f (from_on (suc a) c)) ≡ [] → (a ≡ i) ⊎ ((a < i) ⊎ (i < a)) → (filter f (from_on (suc a) c) ≡ [] → a < i → f i ≡ false) → f i ≡ false
    by true h e o more = absurd cc
    by false h e (inl s) more = subst (λ n. f n ≡ false) s h
    by false h e (inr (inl g)) more = more e g
    by false h e (inr (inr g)) more = absurd (omega (arith, g, l))

from_on_split : (a b c : ℕ) → from_on a (b + c) ≡ from_on a b ++ from_on (a + b) c
from_on_split a zero c = let z : 0 + c ≡ c = omega arith in let y : a ≡ a + 0 = omega arith in ap (from_on a) z ∙ ap (λ n. from_on n c) y
from_on_split a (suc b) c =
    let e : suc b + c ≡ suc (b + c) = omega arith in
    let f : suc a + b ≡ a + suc b = omega arith in
    ap (from_on a) e ∙ ap (λ xs. a ∷ xs) (from_on_split (suc a) b c ∙ ap (λ n. from_on (suc a) b ++ from_on n c) f)

filter_shift : (f g : ℕ → Bool) (m a c : ℕ) → ((i : ℕ) → f (m + i) ≡ g i) → filter f (from_on (m + a) c) ≡ map (λ k. m + k) (filter g (from_on a c))
filter_shift f g m a zero h = refl
filter_shift f g m a (suc c) h =
    let e : suc (m + a) ≡ m + suc a = omega arith in
    ap (λ t. cond t ((m + a) ∷ filter f (from_on (suc (m + a)) c)) (filter f (from_on (suc (m + a)) c))) (h a)
    ∙ (ap (λ xs. cond (g a) ((m + a) ∷ xs) xs) (ap (λ n. filter f (from_on n c)) e ∙ filter_shift f g m (suc a) c h)
    ∙ by (g a))
  where
    by : (t : Bool) → cond t ((m + a) ∷ map (λ k. m + k) (filter g (from_on (suc a) c))) (map (λ k. m + k) (filter g (from_on (suc a) c))) ≡ map (λ k. m + k) (cond t (a ∷ filter g (from_on (suc a) c)) (filter g (from_on (suc a) c)))
    by true = refl
    by false = refl

-- Gates and things.

things_stand : (m : ℕ) (D : List ℕ) (k : ℕ) → stands D (m + k) ≡ stands (things_of m D) k
things_stand m [] k = refl
things_stand m (d ∷ D) k = by (nat_lt d m) refl (things_stand m D k)
  where
    same : m ≤ d → nat_eq (m + k) d ≡ nat_eq k (d - m)
    same l = at (nat_eq k (d - m)) refl
      where
        at : (t : Bool) → nat_eq k (d - m) ≡ t → nat_eq (m + k) d ≡ t
        at true e = let s = eq_is k (d - m) e in is_eq (m + k) d (omega (arith, s, l))
        at false e = let s = eq_not k (d - m) e in not_eq (m + k) d (λ h. s (omega (arith, h)))

    by : (t : Bool) → nat_lt d m ≡ t → stands D (m + k) ≡ stands (things_of m D) k → (nat_eq (m + k) d || stands D (m + k)) ≡ stands (cond t (things_of m D) ((d - m) ∷ things_of m D)) k
    by true e ih = let l = lt_is d m e in ap (λ t. t || stands D (m + k)) (not_eq (m + k) d (λ s. absurd (omega (arith, s, l)))) ∙ ih
    by false e ih = ap (λ t. t || stands D (m + k)) (same (lt_not d m e)) ∙ ap (λ t. nat_eq k (d - m) || t) ih

things_more : (m : ℕ) (D : List ℕ) (k : ℕ) → things_of m (D ++ k ∷ []) ≡ things_of m D ++ things_of m (k ∷ [])
things_more m [] k = refl
things_more m (d ∷ D) k = by (nat_lt d m) (things_more m D k)
  where
    by : (t : Bool) → things_of m (D ++ k ∷ []) ≡ things_of m D ++ things_of m (k ∷ []) → cond t (things_of m (D ++ k ∷ [])) ((d - m) ∷ things_of m (D ++ k ∷ [])) ≡ cond t (things_of m D) ((d - m) ∷ things_of m D) ++ things_of m (k ∷ [])
    by true ih = ih
    by false ih = ap (λ xs. (d - m) ∷ xs) ih

gate_more : (m : ℕ) (D : List ℕ) (g : ℕ) → g < m → things_of m (D ++ g ∷ []) ≡ things_of m D
gate_more m D g l = things_more m D g ∙ (ap (λ t. things_of m D ++ cond t [] ((g - m) ∷ [])) (is_lt g m l) ∙ append-nil (things_of m D))

thing_more : (m : ℕ) (D : List ℕ) (k : ℕ) → things_of m (D ++ (m + k) ∷ []) ≡ things_of m D ++ k ∷ []
thing_more m D k =
    let e : (m + k) - m ≡ k = omega arith in
    things_more m D (m + k) ∙ (ap (λ t. things_of m D ++ cond t [] (((m + k) - m) ∷ [])) (not_lt (m + k) m (omega arith)) ∙ ap (λ n. things_of m D ++ n ∷ []) e)

length_more : (D : List ℕ) (k : ℕ) → length (D ++ k ∷ []) ≡ length D + 1
length_more [] k = refl
length_more (d ∷ D) k = let ih = length_more D k in omega (arith, ih)

is_zero : (n : ℕ) → (n == 0) ≡ true → n ≡ 0
is_zero n e = grind (arith, nat_tests)

is_same : (a b : ℕ) → (a == b) ≡ true → a ≡ b
is_same a b e = grind (arith, nat_tests)

same_is : (a b : ℕ) → a ≡ b → (a == b) ≡ true
same_is a b e = grind (arith, nat_tests)

not_same : (a b : ℕ) → a ≢ b → (a == b) ≡ false
not_same a b h = by (a == b) refl
  where
    by : (t : Bool) → (a == b) ≡ t → t ≡ false
    by true e = absurd (h (is_same a b e))
    by false e = refl

-- One is taken after another.

module _ (n : ℕ) (s : List Spot) (sorted : AreSorted s) (within : AllByRecursion (λ x. x.thing < n) s) where
  abbrev m : ℕ
  m = length s

  abbrev P : List Pair
  P = gate_pairs (length s) 0 None s

  all_stand : (D : List ℕ) → ((k : ℕ) → k < n → stands D (m + k) ≡ true) → (xs : List Spot) → AllByRecursion (λ x. x.thing < n) xs → AllByRecursion (λ x. stands D (m + x.thing) ≡ true) xs
  all_stand D h [] w = tt
  all_stand D h (x ∷ xs) w = (h x.thing w.0, all_stand D h xs w.1)

  record IsEnd (full done : List ℕ) : Type 0 where
    things : things_of m full ≡ done
    all : length full ≡ m + n → length done ≡ n
    some : length full ≢ m + n → length done ≢ n

  module _ (D : List ℕ) where
    abbrev E : List ℕ
    E = things_of m D

    abbrev left_here : ℕ
    left_here = left_in (stands E) 0 n

    split_left : left_in (stands D) 0 (m + n) ≡ left_in (stands D) 0 m + left_here
    split_left =
        let z : 0 + m ≡ m + 0 = omega arith in
        left_split (stands D) 0 m n ∙ ap (λ k. left_in (stands D) 0 m + k) (ap (λ k. left_in (stands D) k n) z ∙ left_shift (stands D) (stands E) m 0 n (things_stand m D))

    abbrev gates_free : List ℕ
    gates_free = filter (λ k. blocked D P k == 0) (from_on 0 m)

    free_split : free_in (m + n) P D ≡ gates_free ++ filter (λ k. blocked D P k == 0) (from_on (m + 0) n)
    free_split =
        let z : 0 + m ≡ m + 0 = omega arith in
        ap (filter (λ k. blocked D P k == 0)) (from_on_split 0 m n ∙ ap (λ k. from_on 0 m ++ from_on k n) z) ∙ filter-append (λ k. blocked D P k == 0) (from_on 0 m) (from_on (m + 0) n)

    no_gate : gates_free ≡ [] → HasNoGate D m 0 P
    no_gate e j l w = nothing_in (λ k. blocked D P k == 0) 0 m e j l (omega (arith, w))

    things_free : AreClosed D P → gates_free ≡ [] → free_in (m + n) P D ≡ map (λ k. m + k) (ready n s E)
    things_free closed e =
        free_split
        ∙ (ap (λ gs. gs ++ filter (λ k. blocked D P k == 0) (from_on (m + 0) n)) e
        ∙ filter_shift (λ k. blocked D P k == 0) (λ k. not (waits s E k)) m 0 n (λ k. thing_free D E s k sorted closed (no_gate e) (things_stand m D)))

    -- where nothing is free, and all things are taken, so are all gates
    stuck : AreClosed D P → gates_free ≡ [] → left_here ≡ 0 → left_in (stands D) 0 (m + n) ≡ 0
    stuck closed e none =
        left_all (stands D) 0 (m + n) (λ i l w. at i (cases_order i m) (omega (arith, w)))
      where
        thing : (k : ℕ) → k < n → stands D (m + k) ≡ true
        thing k l = things_stand m D k ∙ all_left (stands E) 0 n none k (omega arith) (omega (arith, l))

        gate : (i : ℕ) → i < m → stands D i ≡ true
        gate i l = gates_from D m 0 None s (omega arith) closed (no_gate e) (taken_at_first D) (all_stand D thing s within) i (omega arith) (omega (arith, l))

        past : (i : ℕ) → m ≤ i → i < m + n → stands D i ≡ true
        past i l w = let k : m + (i - m) ≡ i = omega (arith, l) in subst (λ j. stands D j ≡ true) k (thing (i - m) (omega (arith, l, w)))

        at : (i : ℕ) → (i ≡ m) ⊎ ((i < m) ⊎ (m < i)) → i < m + n → stands D i ≡ true
        at i (inl e) w = past i (omega (arith, e)) w
        at i (inr (inl l)) w = gate i l
        at i (inr (inr l)) w = past i (omega (arith, l)) w

    record IsAt (f : ℕ) : Type 0 where
      left : left_in (stands D) 0 (m + n) ≡ f
      both : length D + f ≡ m + n
      things : length E + left_here ≡ n
      closed : AreClosed D P

  Goes : ℕ → Type 0
  Goes f = (D : List ℕ) → IsAt D f → IsEnd (order_from f (m + n) P D) (taken_from (left_here D) n s (E D))

  at_end : (D : List ℕ) → IsAt D 0 → IsEnd D (taken_from (left_here D) n s (E D))
  at_end D h =
      let a = split_left D in
      let b = h.left in
      let c = h.both in
      let d = h.things in
      let z : left_here D ≡ 0 = omega (arith, a, b) in
      let is : taken_from (left_here D) n s (E D) ≡ E D = ap (λ k. taken_from k n s (E D)) z in
      record {
        things = sym is;
        all = λ e. ap length is ∙ omega (arith, z, d);
        some = λ e. absurd (e (omega (arith, c)));
      }

  free_one_left : (D : List ℕ) (k : ℕ) → (blocked D P k == 0) ≡ true → stands D k ≡ false
  free_one_left D k e = free_is_left D P k (is_zero (blocked D P k) e)

  -- a gate is taken
  gate_step : (f : ℕ) (D : List ℕ) (g : ℕ) → IsAt D (suc f) → IsIn (λ k. blocked D P k == 0) 0 m g → Goes f → IsEnd (order_from f (m + n) P (D ++ g ∷ [])) (taken_from (left_here D) n s (E D))
  unfolding Goes
  gate_step f D g h first again =
      subst (λ xs. IsEnd (order_from f (m + n) P (D ++ g ∷ [])) (taken_from (left_in (stands xs) 0 n) n s xs)) same
      (again (D ++ g ∷ []) (record {
        left = let l = left_taken D g (m + n) (omega (arith, below)) new in omega (arith, l, left);
        both = let l = length_more D g in omega (arith, l, both);
        things = subst (λ xs. length xs + left_in (stands xs) 0 n ≡ n) (sym same) h.things;
        closed = closed_more D P g first.passes h.closed;
      }))
    where
      below : g < 0 + m
      below = first.below

      left : left_in (stands D) 0 (m + n) ≡ suc f
      left = h.left

      both : length D + suc f ≡ m + n
      both = h.both

      new : stands D g ≡ false
      new = free_one_left D g first.passes

      same : things_of m (D ++ g ∷ []) ≡ things_of m D
      same = gate_more m D g (omega (arith, below))

  -- a thing is taken
  thing_step : (f : ℕ) (D : List ℕ) (k : ℕ) (ks : List ℕ) → IsAt D (suc f) → gates_free D ≡ [] → ready n s (E D) ≡ k ∷ ks → Goes f → IsEnd (order_from f (m + n) P (D ++ (m + k) ∷ [])) (taken_from (left_here D) n s (E D))
  unfolding Goes
  thing_step f D k ks h none is again =
      subst (IsEnd (order_from f (m + n) P (D ++ (m + k) ∷ [])))
      (ap (λ xs. taken_from (left_in (stands xs) 0 n) n s xs) same ∙ sym (ap (λ c. taken_from c n s (E D)) fewer ∙ ap (taken_next (taken_from (left_in (stands (E D ++ k ∷ [])) 0 n) n s) (E D)) is))
      (again (D ++ (m + k) ∷ []) (record {
        left = let l = left_taken D (m + k) (m + n) (omega (arith, below)) (things_stand m D k ∙ new) in omega (arith, l, left);
        both = let l = length_more D (m + k) in omega (arith, l, both);
        things = subst (λ xs. length xs + left_in (stands xs) 0 n ≡ n) (sym same) (let l = length_more (E D) k in omega (arith, l, fewer, things));
        closed = closed_more D P (m + k) (thing_free D (E D) s k sorted h.closed (no_gate D none) (things_stand m D) ∙ first.passes) h.closed;
      }))
    where
      first : IsIn (λ j. not (waits s (E D) j)) 0 n k
      first = first_in (λ j. not (waits s (E D) j)) 0 n k ks is

      below : k < 0 + n
      below = first.below

      left : left_in (stands D) 0 (m + n) ≡ suc f
      left = h.left

      both : length D + suc f ≡ m + n
      both = h.both

      things : length (E D) + left_here D ≡ n
      things = h.things

      new : stands (E D) k ≡ false
      new = by (stands (E D) k) (list_any (λ b. nat_eq b.thing k && is_held s (E D) b) s) first.passes
        where
          by : (t r : Bool) → not (t || r) ≡ true → t ≡ false
          by true r e = absurd cc
          by false r e = refl

      fewer : left_here D ≡ suc (left_in (stands (E D ++ k ∷ [])) 0 n)
      fewer = left_taken (E D) k n (omega (arith, below)) new

      same : things_of m (D ++ (m + k) ∷ []) ≡ E D ++ k ∷ []
      same = thing_more m D k

  -- nothing can be taken
  none_step : (f : ℕ) (D : List ℕ) → IsAt D (suc f) → gates_free D ≡ [] → ready n s (E D) ≡ [] → IsEnd D (taken_from (left_here D) n s (E D))
  none_step f D h none is = by (left_here D) refl
    where
      by : (c : ℕ) → left_here D ≡ c → IsEnd D (taken_from c n s (E D))
      by zero e = let a = stuck D h.closed none e in let b = h.left in absurd (omega (arith, a, b))
      by (suc c) e =
          let same : taken_from (suc c) n s (E D) ≡ E D = ap (taken_next (taken_from c n s) (E D)) is in
          let b = h.both in
          let d = h.things in
          record {
            things = sym same;
            all = λ l. absurd (omega (arith, l, b));
            some = λ l k. let j : length (E D) ≡ n = sym (ap length same) ∙ k in absurd (omega (arith, j, d, e));
          }

  goes : (f : ℕ) → Goes f
  unfolding Goes
  goes zero D h = at_end D h
  goes (suc f) D h = by (gates_free D) refl (goes f)
    where
      things : gates_free D ≡ [] → Goes f → (ks : List ℕ) → ready n s (E D) ≡ ks → IsEnd (taken_next (order_from f (m + n) P) D (map (λ k. m + k) ks)) (taken_from (left_here D) n s (E D))
      things e again [] is = none_step f D h e is
      things e again (k ∷ ks) is = thing_step f D k ks h e is again

      by : (gs : List ℕ) → gates_free D ≡ gs → Goes f → IsEnd (order_from (suc f) (m + n) P D) (taken_from (left_here D) n s (E D))
      by [] e again =
          subst (λ ks. IsEnd (taken_next (order_from f (m + n) P) D ks) (taken_from (left_here D) n s (E D))) (sym (things_free D h.closed e)) (things e again (ready n s (E D)) refl)
      by (g ∷ gs) e again =
          subst (λ ks. IsEnd (taken_next (order_from f (m + n) P) D ks) (taken_from (left_here D) n s (E D)))
          (sym (free_split D ∙ ap (λ xs. xs ++ filter (λ k. blocked D P k == 0) (from_on (m + 0) n)) e))
          (gate_step f D g h (first_in (λ k. blocked D P k == 0) 0 m g gs e) again)

  whole : IsEnd (order_from (m + n) (m + n) P []) (taken_from n n s [])
  unfolding Goes
  whole =
      subst (λ c. IsEnd (order_from (m + n) (m + n) P []) (taken_from c n s [])) (left_none 0 n)
      (goes (m + n) [] (record {
        left = left_none 0 (m + n);
        both = omega arith;
        things = let l = left_none 0 n in omega (arith, l);
        closed = closed_first P;
      }))

  pub some_taken : (order : List ℕ) → order_in (m + n) P ≡ Some order → taken_in n s ≡ Some (things_of m order)
  unfolding order_in taken_in
  some_taken order e = by (length (order_from (m + n) (m + n) P []) == m + n) refl e
    where
      by : (t : Bool) → (length (order_from (m + n) (m + n) P []) == m + n) ≡ t → cond t (Some (order_from (m + n) (m + n) P [])) None ≡ Some order → all_or_none n (taken_from n n s []) ≡ Some (things_of m order)
      by true h e =
          let full : order_from (m + n) (m + n) P [] ≡ order = cc in
          let len = whole.all (is_same (length (order_from (m + n) (m + n) P [])) (m + n) h) in
          ap (λ t. cond t (Some (taken_from n n s [])) None) (same_is (length (taken_from n n s [])) n len) ∙ ap Some (sym whole.things ∙ ap (things_of m) full)
      by false h e = absurd cc

  pub none_taken : order_in (m + n) P ≡ None → taken_in n s ≡ None
  unfolding order_in taken_in
  none_taken e = by (length (order_from (m + n) (m + n) P []) == m + n) refl e
    where
      by : (t : Bool) → (length (order_from (m + n) (m + n) P []) == m + n) ≡ t → cond t (Some (order_from (m + n) (m + n) P [])) None ≡ None → all_or_none n (taken_from n n s []) ≡ None
      by true h e = absurd cc
      by false h e =
          let len = whole.some (λ l. let w = same_is (length (order_from (m + n) (m + n) P [])) (m + n) l in absurd cc) in
          ap (λ t. cond t (Some (taken_from n n s [])) None) (not_same (length (taken_from n n s [])) n len)

-- the same of pairs as they are made
module _ (n : ℕ) (s : List Spot) (all : ℕ) (ps : List Pair) (sorted : IsNonDecreasingBy (λ x. x.at) s) (things : All (λ x. x.thing < n) s) (sum : all ≡ length s + n) (are : ps ≡ gate_pairs (length s) 0 None s) where
  same_in : order_in all ps ≡ order_in (length s + n) (gate_pairs (length s) 0 None s)
  same_in = ap (λ k. order_in k ps) sum ∙ ap (order_in (length s + n)) are

  pub some_in : (order told : List ℕ) → order_in all ps ≡ Some order → told ≡ things_of (length s) order → taken_in n s ≡ Some told
  some_in order told e is = some_taken n s (in_order s sorted) (recursion_from_All (λ x. x.thing < n) s things) order (sym same_in ∙ e) ∙ ap Some (sym is)

  pub none_in : order_in all ps ≡ None → taken_in n s ≡ None
  none_in e = none_taken n s (in_order s sorted) (recursion_from_All (λ x. x.thing < n) s things) (sym same_in ∙ e)

-- Spots in any order tell the same.

same_held : (xs ys : List Spot) (done : List ℕ) (b : Spot) → IsPermutation xs ys → is_held xs done b ≡ is_held ys done b
same_held xs ys done b p = list_any-IsPermutation (λ a. is_earlier a b && not (stands done a.thing)) xs ys p

same_waits : (xs ys : List Spot) (done : List ℕ) (k : ℕ) → IsPermutation xs ys → waits xs done k ≡ waits ys done k
same_waits xs ys done k p =
    ap (λ t. stands done k || t)
    (list_any-IsPermutation (λ b. nat_eq b.thing k && is_held xs done b) xs ys p
    ∙ ap (λ (f : Spot → Bool). list_any (λ b. nat_eq b.thing k && f b) ys) (λ i b. same_held xs ys done b p i))

same_ready : (n : ℕ) (xs ys : List Spot) (done : List ℕ) → IsPermutation xs ys → ready n xs done ≡ ready n ys done
same_ready n xs ys done p = ap (λ (f : ℕ → Bool). filter (λ k. not (f k)) (from_on 0 n)) (λ i k. same_waits xs ys done k p i)

same_taken : (most n : ℕ) (xs ys : List Spot) (done : List ℕ) → IsPermutation xs ys → taken_from most n xs done ≡ taken_from most n ys done
same_taken zero n xs ys done p = refl
same_taken (suc most) n xs ys done p = ap (taken_next (taken_from most n xs) done) (same_ready n xs ys done p) ∙ by (ready n ys done) (λ d. same_taken most n xs ys d p)
  where
    by : (ks : List ℕ) → ((d : List ℕ) → taken_from most n xs d ≡ taken_from most n ys d) → taken_next (taken_from most n xs) done ks ≡ taken_next (taken_from most n ys) done ks
    by [] again = refl
    by (k ∷ ks) again = again (done ++ k ∷ [])

pub same_order : (n : ℕ) (xs ys : List Spot) → IsPermutation xs ys → taken_in n xs ≡ taken_in n ys
unfolding taken_in
same_order n xs ys p = ap (all_or_none n) (same_taken n n xs ys [] p)
