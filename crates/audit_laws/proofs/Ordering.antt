-- What is taken is in order, and where there is an order all is taken.
use Rattle.std.proofs.Common.{◌≡◌, ◌==◌, ◌||◌, ◌+◌, ◌<◌, ◌≤◌, ℕ, zero, suc, nat_eq, Bool, true, false, cond, not, List, [], ◌∷◌, ◌++◌, length, filter, slice_get, IsPermutation, refl, sym, ap, ◌∙◌, subst, arith, append_assoc, Some, None, ◌⊎◌, inl, inr, true≢false}
use Rattle.std.proofs.lemmas.Bool.{cases_lt}
use Rattle.std.proofs.lemmas.Bool.Decides.{nat_tests}
use Rattle.std.proofs.lemmas.List.{append-nil, length-append}
use Rattle.std.proofs.lemmas.List.Sorted.{IsPermutation-append_right, IsPermutation-middle, IsPermutation-refl, IsPermutation-trans, list_any-IsPermutation, length_permutation, sum_by-IsPermutation}
use Rattle.std.proofs.lemmas.List.Sums.{sum_by-append, sum_by-cons}
use Rattle.std.proofs.lemmas.Option.{slice_get_within}
use Rattle.std.specs.List.{sum_by}
use Rattle.run_meaning.specs.Turns.{from_on}
use Rattle.site_audit.specs.Order.{stands, taken_next}
use Rattle.audit_laws.specs.Orders.{all_taken, AreWithin, IsOrder, IsWaiting, StandsBefore, TakesAll, TakesInOrder, taken_so}

-- ---- where a number stands

-- it stands there
pub record Stands (xs : List ℕ) (k : ℕ) : Type 0 where
  pub place : ℕ
  pub is : slice_get xs place ≡ Some k

pub eq_is : (a b : ℕ) → nat_eq a b ≡ true → a ≡ b
eq_is a b e = grind (arith, nat_tests, e)

pub is_eq : (a b : ℕ) → a ≡ b → nat_eq a b ≡ true
is_eq a b e = grind (arith, nat_tests, e)

pub head_is : (x k : ℕ) → Some x ≡ Some k → x ≡ k
head_is x k e = cc

pub stands_there : (xs : List ℕ) (k : ℕ) → stands xs k ≡ true → Stands xs k
stands_there [] k e = absurd (true≢false (sym e))
stands_there (x ∷ xs) k e = by (nat_eq k x) refl e (stands_there xs k)
  where
    by : (t : Bool) → nat_eq k x ≡ t → (t || stands xs k) ≡ true → (stands xs k ≡ true → Stands xs k) → Stands (x ∷ xs) k
    by true h e more = record { place = 0; is = ap Some (sym (eq_is k x h)) }
    by false h e more = let m = more e in record { place = suc m.place; is = m.is }

pub there_stands : (xs : List ℕ) (place k : ℕ) → slice_get xs place ≡ Some k → stands xs k ≡ true
there_stands [] place k e = absurd (let f : None ≡ Some k = e in cc)
there_stands (x ∷ xs) zero k e = ap (λ t. t || stands xs k) (is_eq k x (sym (head_is x k e)))
there_stands (x ∷ xs) (suc place) k e = by (nat_eq k x) (there_stands xs place k e)
  where
    by : (t : Bool) → stands xs k ≡ true → (t || stands xs k) ≡ true
    by true h = refl
    by false h = h

pub permuted : (xs ys : List ℕ) (k : ℕ) → IsPermutation xs ys → stands xs k ≡ stands ys k
permuted xs ys k h = list_any-IsPermutation (nat_eq k) xs ys h

pub stands_append : (xs ys : List ℕ) (k : ℕ) → stands (xs ++ ys) k ≡ (stands xs k || stands ys k)
stands_append [] ys k = refl
stands_append (x ∷ xs) ys k = by (nat_eq k x) (stands_append xs ys k)
  where
    by : (t : Bool) → stands (xs ++ ys) k ≡ (stands xs k || stands ys k) → (t || stands (xs ++ ys) k) ≡ ((t || stands xs k) || stands ys k)
    by true h = refl
    by false h = h

-- numbers from one on
above : (j k : ℕ) → j ≤ k → nat_eq k j ≡ false → suc j ≤ k
above j k low e = grind (arith, nat_tests, e, low)

pub from_stands : (j n k : ℕ) → j ≤ k → k < j + n → stands (from_on j n) k ≡ true
from_stands j zero k low high = absurd (omega (arith, low, high))
from_stands j (suc n) k low high = by (nat_eq k j) refl (λ l. from_stands (suc j) n k l (omega (arith, high)))
  where
    by : (t : Bool) → nat_eq k j ≡ t → (suc j ≤ k → stands (from_on (suc j) n) k ≡ true) → (t || stands (from_on (suc j) n) k) ≡ true
    by true e more = refl
    by false e more = more (above j k low e)

from_length : (j n : ℕ) → length (from_on j n) ≡ n
from_length j zero = refl
from_length j (suc n) = ap suc (from_length (suc j) n)

pub from_within : (j n k : ℕ) → stands (from_on j n) k ≡ true → k < j + n
from_within j zero k e = absurd (true≢false (sym e))
from_within j (suc n) k e = by (nat_eq k j) refl e (from_within (suc j) n k)
  where
    by : (t : Bool) → nat_eq k j ≡ t → (t || stands (from_on (suc j) n) k) ≡ true → (stands (from_on (suc j) n) k ≡ true → k < suc j + n) → k < j + suc n
    by true h e more = let same = eq_is k j h in omega (arith, same)
    by false h e more = let lt = more e in omega (arith, lt)

-- ---- a list of those that pass a test

-- the first of those that are free
kept_first : (test : ℕ → Bool) (xs : List ℕ) (k : ℕ) (ks : List ℕ) → filter test xs ≡ k ∷ ks → (stands xs k ≡ true) × (test k ≡ true)
kept_first test [] k ks e = absurd cc
kept_first test (x ∷ xs) k ks e = by (test x) refl e (kept_first test xs k ks)
  where
    here : (t : Bool) → stands xs k ≡ true → (t || stands xs k) ≡ true
    here true h = refl
    here false h = h

    by : (t : Bool) → test x ≡ t → cond t (x ∷ filter test xs) (filter test xs) ≡ k ∷ ks → (filter test xs ≡ k ∷ ks → (stands xs k ≡ true) × (test k ≡ true)) → (stands (x ∷ xs) k ≡ true) × (test k ≡ true)
    by true h e more = let same : x ≡ k = cc in (ap (λ t. t || stands xs k) (is_eq k x (sym same)), sym (ap test same) ∙ h)
    by false h e more = let m = more e in (here (nat_eq k x) m.0, m.1)

none_kept : (test : ℕ → Bool) (xs : List ℕ) (k : ℕ) → filter test xs ≡ [] → stands xs k ≡ true → test k ≡ true → ⊥
none_kept test [] k e s t = true≢false (sym s)
none_kept test (x ∷ xs) k e s t = by (test x) refl e (nat_eq k x) refl s (none_kept test xs k)
  where
    by : (u : Bool) → test x ≡ u → cond u (x ∷ filter test xs) (filter test xs) ≡ [] → (v : Bool) → nat_eq k x ≡ v → (v || stands xs k) ≡ true → (filter test xs ≡ [] → stands xs k ≡ true → test k ≡ true → ⊥) → ⊥
    by true h e v g s more = absurd cc
    by false h e true g s more = true≢false (sym t ∙ (ap test (eq_is k x g) ∙ h))
    by false h e false g s more = more e s t

is_zero : (n : ℕ) → n ≡ 0 → (n == 0) ≡ true
is_zero n e = grind (arith, nat_tests, e)

-- ---- splits

-- what stands in a list splits it
record Split (xs : List ℕ) (k : ℕ) : Type 0 where
  front : List ℕ
  behind : List ℕ
  is : xs ≡ front ++ k ∷ behind

split_at : (xs : List ℕ) (k : ℕ) → stands xs k ≡ true → Split xs k
split_at [] k e = absurd (true≢false (sym e))
split_at (x ∷ xs) k e = by (nat_eq k x) refl e (split_at xs k)
  where
    by : (t : Bool) → nat_eq k x ≡ t → (t || stands xs k) ≡ true → (stands xs k ≡ true → Split xs k) → Split (x ∷ xs) k
    by true h e more = record { front = []; behind = xs; is = ap (λ y. y ∷ xs) (sym (eq_is k x h)) }
    by false h e more = let m = more e in record { front = x ∷ m.front; behind = m.behind; is = ap (λ ys. x ∷ ys) m.is }

at_append : (xs ys : List ℕ) (i : ℕ) (k : ℕ) → slice_get xs i ≡ Some k → slice_get (xs ++ ys) i ≡ Some k
at_append [] ys i k e = absurd (let f : None ≡ Some k = e in cc)
at_append (x ∷ xs) ys zero k e = e
at_append (x ∷ xs) ys (suc i) k e = at_append xs ys i k e

-- of one more it is the last one or stood before
at_last : (xs : List ℕ) (x i k : ℕ) → slice_get (xs ++ x ∷ []) i ≡ Some k → (slice_get xs i ≡ Some k) ⊎ ((i ≡ length xs) × (x ≡ k))
at_last [] x zero k e = inr (refl, head_is x k e)
at_last [] x (suc i) k e = absurd (let f : None ≡ Some k = e in cc)
at_last (y ∷ xs) x zero k e = inl e
at_last (y ∷ xs) x (suc i) k e = by (at_last xs x i k e)
  where
    by : (slice_get xs i ≡ Some k) ⊎ ((i ≡ length xs) × (x ≡ k)) → (slice_get xs i ≡ Some k) ⊎ ((suc i ≡ length (y ∷ xs)) × (x ≡ k))
    by (inl h) = inl h
    by (inr h) = inr (ap suc h.0, h.1)

pub false_or : (a b : Bool) → a ≡ false → (a || b) ≡ true → b ≡ true
false_or true b h e = absurd (true≢false h)
false_or false b h e = e

-- ---- how often a number stands

abbrev pub once : ℕ → ℕ → ℕ
once k x = cond (nat_eq k x) 1 0

abbrev pub times : ℕ → List ℕ → ℕ
times k xs = sum_by (once k) xs

pub times_cons : (k x : ℕ) (xs : List ℕ) → times k (x ∷ xs) ≡ once k x + times k xs
times_cons k x xs = sum_by-cons (once k) x xs

once_is : (k x : ℕ) → x ≡ k → once k x ≡ 1
once_is k x e = ap (λ t. cond t 1 0) (is_eq k x (sym e))

not_below : (k j : ℕ) → k < j → nat_eq k j ≡ false
not_below k j h = grind (arith, nat_tests, h)

none_from : (j n k : ℕ) → k < j → times k (from_on j n) ≡ 0
none_from j zero k h = refl
none_from j (suc n) k h =
    let more = none_from (suc j) n k (omega (arith, h)) in
    let here : once k j ≡ 0 = ap (λ t. cond t 1 0) (not_below k j h) in
    let whole = times_cons k j (from_on (suc j) n) in
    omega (arith, more, here, whole)

-- each number from one on stands at most once
once_from : (j n k : ℕ) → times k (from_on j n) ≤ 1
once_from j zero k = omega arith
once_from j (suc n) k = by (nat_eq k j) refl (once_from (suc j) n k) (times_cons k j (from_on (suc j) n))
  where
    by : (t : Bool) → nat_eq k j ≡ t → times k (from_on (suc j) n) ≤ 1 → times k (from_on j (suc n)) ≡ cond t 1 0 + times k (from_on (suc j) n) → times k (from_on j (suc n)) ≤ 1
    by true e more whole = let same = eq_is k j e in let none = none_from (suc j) n k (omega (arith, same)) in omega (arith, none, whole)
    by false e more whole = omega (arith, more, whole)

stands_times : (xs : List ℕ) (k place : ℕ) → slice_get xs place ≡ Some k → 1 ≤ times k xs
stands_times [] k place e = absurd (let f : None ≡ Some k = e in cc)
stands_times (x ∷ xs) k zero e = let here = once_is k x (head_is x k e) in let whole = times_cons k x xs in omega (arith, here, whole)
stands_times (x ∷ xs) k (suc place) e = let more = stands_times xs k place e in let whole = times_cons k x xs in omega (arith, more, whole)

pub twice : (xs : List ℕ) (k i j : ℕ) → slice_get xs i ≡ Some k → slice_get xs j ≡ Some k → i < j → 2 ≤ times k xs
twice [] k i j e f lt = absurd (let g : None ≡ Some k = e in cc)
twice (x ∷ xs) k i zero e f lt = absurd (omega (arith, lt))
twice (x ∷ xs) k zero (suc j) e f lt =
    let here = once_is k x (head_is x k e) in
    let more = stands_times xs k j f in
    let whole = times_cons k x xs in
    omega (arith, here, more, whole)
twice (x ∷ xs) k (suc i) (suc j) e f lt =
    let more = twice xs k i j e f (omega (arith, lt)) in
    let whole = times_cons k x xs in
    omega (arith, more, whole)

pub one_place : (count : ℕ) (order : List ℕ) (k i j : ℕ) → IsPermutation (from_on 0 count) order → slice_get order i ≡ Some k → slice_get order j ≡ Some k → i < j → ⊥
one_place count order k i j h e f lt =
    let two = twice order k i j e f lt in
    let same = sum_by-IsPermutation (once k) (from_on 0 count) order h in
    let few = once_from 0 count k in
    absurd (omega (arith, two, same, few))

-- what is left doesn't stand yet
left_is_left : (count : ℕ) (done left : List ℕ) (k place : ℕ) → IsPermutation (from_on 0 count) (done ++ left) → slice_get left place ≡ Some k → stands done k ≡ false
left_is_left count done left k place h e = by (stands done k) refl
  where
    by : (t : Bool) → stands done k ≡ t → stands done k ≡ false
    by false f = f
    by true f =
        let s : Stands done k = stands_there done k f in
        let one = stands_times done k s.place s.is in
        let two = stands_times left k place e in
        let both = sum_by-append (once k) done left in
        let same = sum_by-IsPermutation (once k) (from_on 0 count) (done ++ left) h in
        let few = once_from 0 count k in
        absurd (omega (arith, one, two, both, same, few))

-- ---- the first that is left

-- the first of an order that doesn't stand yet
record FirstLeft (done order : List ℕ) : Type 0 where
  number : ℕ
  place : ℕ
  is : slice_get order place ≡ Some number
  left : stands done number ≡ false
  earlier : (i j : ℕ) → i < place → slice_get order i ≡ Some j → stands done j ≡ true

first_left : (done order : List ℕ) (k : ℕ) → stands order k ≡ true → stands done k ≡ false → FirstLeft done order
first_left done [] k e left = absurd (true≢false (sym e))
first_left done (x ∷ xs) k e left = by (stands done x) refl (first_left done xs k)
  where
    here : (i j : ℕ) → i < 0 → slice_get (x ∷ xs) i ≡ Some j → stands done j ≡ true
    here i j lt f = absurd (omega (arith, lt))

    next : (b : Bool) → nat_eq k x ≡ b → stands done x ≡ true → (b || stands xs k) ≡ true → stands xs k ≡ true
    next true h f g = absurd (true≢false (sym f ∙ (ap (stands done) (sym (eq_is k x h)) ∙ left)))
    next false h f g = g

    before : stands done x ≡ true → (f : FirstLeft done xs) → (i j : ℕ) → i < suc f.place → slice_get (x ∷ xs) i ≡ Some j → stands done j ≡ true
    before h f zero j lt g = subst (λ y. stands done y ≡ true) (head_is x j g) h
    before h f (suc i) j lt g = f.earlier i j (omega (arith, lt)) g

    by : (t : Bool) → stands done x ≡ t → (stands xs k ≡ true → stands done k ≡ false → FirstLeft done xs) → FirstLeft done (x ∷ xs)
    by false h more = record { number = x; place = 0; is = refl; left = h; earlier = here }
    by true h more =
        let f = more (next (nat_eq k x) refl h e) left in
        record { number = f.number; place = suc f.place; is = f.is; left = f.left; earlier = before h f }

first_ready : (count : ℕ) (done order : List ℕ) (f : FirstLeft done order) (must : ℕ → ℕ → Type 0) → IsPermutation (from_on 0 count) order → ((a b : ℕ) → must a b → StandsBefore order a b) → (a : ℕ) → must a f.number → stands done a ≡ true
first_ready count done order f must h meets a m = by (meets a f.number m) (cases_lt (meets a f.number m).first f.place)
  where
    by : (b : StandsBefore order a f.number) → (b.first < f.place) ⊎ (f.place ≤ b.first) → stands done a ≡ true
    by b (inl lt) = f.earlier b.first a lt b.a_is
    by b (inr le) = let early = b.earlier in absurd (one_place count order f.number f.place b.second h f.is b.b_is (omega (arith, early, le)))

-- ---- what was taken so far

pub not_is : (b : Bool) → not b ≡ true → b ≡ false
not_is true e = absurd (true≢false (sym e))
not_is false e = refl

not_not : (b : Bool) → b ≡ false → not b ≡ true
not_not b e = ap not e

or_true : (a b : Bool) → b ≡ true → (a || b) ≡ true
or_true true b e = refl
or_true false b e = e

module _ (must : ℕ → ℕ → Type 0) (waits : List ℕ → ℕ → Bool) (w : IsWaiting must waits) (count : ℕ) where
  -- so many are taken, each of them once and behind those that must stand before it, and the others are left
  record IsTaken (done : List ℕ) : Type 0 where
    left : List ℕ
    all : IsPermutation (from_on 0 count) (done ++ left)
    met : (a b second : ℕ) → must a b → slice_get done second ≡ Some b → (first : ℕ) × (slice_get done first ≡ Some a) × (first < second)

  met_more : (done : List ℕ) (k : ℕ) → waits done k ≡ false → ((a b second : ℕ) → must a b → slice_get done second ≡ Some b → (first : ℕ) × (slice_get done first ≡ Some a) × (first < second))
      → (a b second : ℕ) → must a b → slice_get (done ++ k ∷ []) second ≡ Some b → (first : ℕ) × (slice_get (done ++ k ∷ []) first ≡ Some a) × (first < second)
  met_more done k free met a b second m at = by (at_last done k second b at)
    where
      by : (slice_get done second ≡ Some b) ⊎ ((second ≡ length done) × (k ≡ b)) → (first : ℕ) × (slice_get (done ++ k ∷ []) first ≡ Some a) × (first < second)
      by (inl h) = let n = met a b second m h in (n.0, at_append done (k ∷ []) n.0 a n.1, n.2)
      by (inr h) =
          let s : Stands done a = stands_there done a (w.ready done a k free (subst (must a) (sym h.1) m)) in
          let last = h.0 in
          let low = slice_get_within done s.place a s.is in
          (s.place, at_append done (k ∷ []) s.place a s.is, omega (arith, last, low))

  taken_more : (done : List ℕ) (k : ℕ) → IsTaken done → stands (from_on 0 count) k ≡ true → waits done k ≡ false → IsTaken (done ++ k ∷ [])
  taken_more done k h inside free = record {
    left = s.front ++ s.behind;
    all = IsPermutation-trans (from_on 0 count) (done ++ h.left) ((done ++ k ∷ []) ++ (s.front ++ s.behind)) h.all moved;
    met = met_more done k free h.met;
  }
    where
      among : stands h.left k ≡ true
      among =
          false_or (stands done k) (stands h.left k) (w.left done k free)
          (sym (stands_append done h.left k) ∙ (sym (permuted (from_on 0 count) (done ++ h.left) k h.all) ∙ inside))

      s : Split h.left k
      s = split_at h.left k among

      to_front : IsPermutation h.left (k ∷ (s.front ++ s.behind))
      to_front = subst (λ xs. IsPermutation xs (k ∷ (s.front ++ s.behind))) (sym s.is) (IsPermutation-middle s.front k s.behind)

      moved : IsPermutation (done ++ h.left) ((done ++ k ∷ []) ++ (s.front ++ s.behind))
      moved =
          subst (IsPermutation (done ++ h.left)) (sym (append_assoc done (k ∷ []) (s.front ++ s.behind)))
          (IsPermutation-append_right done h.left (k ∷ (s.front ++ s.behind)) to_front)

  abbrev ready : List ℕ → List ℕ
  ready done = filter (λ k. not (waits done k)) (from_on 0 count)

  first_taken : (done : List ℕ) (k : ℕ) (ks : List ℕ) → IsTaken done → ready done ≡ k ∷ ks → IsTaken (done ++ k ∷ [])
  first_taken done k ks h e =
      let first = kept_first (λ j. not (waits done j)) (from_on 0 count) k ks e in
      taken_more done k h first.0 (not_is (waits done k) first.1)

  taken_all : (most : ℕ) (done : List ℕ) → IsTaken done → IsTaken (taken_so waits most count done)
  taken_all zero done h = h
  taken_all (suc most) done h = by (λ more g. taken_all most more g) (ready done) refl
    where
      by : ((more : List ℕ) → IsTaken more → IsTaken (taken_so waits most count more)) → (ks : List ℕ) → ready done ≡ ks → IsTaken (taken_next (taken_so waits most count) done ks)
      by again [] e = h
      by again (k ∷ ks) e = again (done ++ k ∷ []) (first_taken done k ks h e)

  none_taken : IsTaken []
  none_taken = record { left = from_on 0 count; all = IsPermutation-refl (from_on 0 count); met = λ a b second m e. absurd (let f : None ≡ Some b = e in cc) }

  left_long : (done : List ℕ) (h : IsTaken done) → length done + length h.left ≡ count
  left_long done h =
      let one = length_permutation (from_on 0 count) (done ++ h.left) h.all in
      let two = from_length 0 count in
      let three = length-append done h.left in
      omega (arith, one, two, three)

  nothing_left : (done : List ℕ) (h : IsTaken done) → length done ≡ count → h.left ≡ []
  nothing_left done h long = by h.left refl
    where
      by : (xs : List ℕ) → h.left ≡ xs → h.left ≡ []
      by [] e = e
      by (x ∷ xs) e =
          let one = left_long done h in
          let two : length h.left ≡ suc (length xs) = ap length e in
          absurd (omega (arith, one, two, long))

  in_order : (done : List ℕ) → AreWithin must count → IsTaken done → length done ≡ count → IsOrder must count done
  in_order done within h long = record { whole = whole; meets = meets }
    where
      whole : IsPermutation (from_on 0 count) done
      whole = subst (IsPermutation (from_on 0 count)) (ap (λ xs. done ++ xs) (nothing_left done h long) ∙ append-nil done) h.all

      meets : (a b : ℕ) → must a b → StandsBefore done a b
      meets a b m =
          let inside : stands done b ≡ true = sym (permuted (from_on 0 count) done b whole) ∙ from_stands 0 count b (omega arith) (let lt = within a b m in omega (arith, lt)) in
          let s : Stands done b = stands_there done b inside in
          let n = h.met a b s.place m s.is in
          record { first = n.0; second = s.place; a_is = n.1; b_is = s.is; earlier = n.2 }

  -- ---- one can be taken

  one_is_free : (order done : List ℕ) → IsOrder must count order → IsTaken done → length done < count → ready done ≡ [] → ⊥
  one_is_free order done o h few e = by h.left refl
    where
      found : (k : ℕ) → stands order k ≡ true → stands done k ≡ false → ⊥
      found k inside left =
          let f : FirstLeft done order = first_left done order k inside left in
          none_kept (λ j. not (waits done j)) (from_on 0 count) f.number e
          (permuted (from_on 0 count) order f.number o.whole ∙ there_stands order f.place f.number f.is)
          (not_not (waits done f.number) (w.free done f.number f.left (first_ready count done order f must o.whole o.meets)))

      by : (xs : List ℕ) → h.left ≡ xs → ⊥
      by [] none =
          let one = left_long done h in
          let two : length h.left ≡ 0 = ap length none in
          absurd (omega (arith, one, two, few))
      by (x ∷ xs) some =
          let at : slice_get h.left 0 ≡ Some x = ap (λ ys. slice_get ys 0) some in
          let inside : stands (done ++ h.left) x ≡ true = stands_append done h.left x ∙ or_true (stands done x) (stands h.left x) (there_stands h.left 0 x at) in
          found x (sym (permuted (from_on 0 count) order x o.whole) ∙ (permuted (from_on 0 count) (done ++ h.left) x h.all ∙ inside)) (left_is_left count done h.left x 0 h.all at)

  all_long : (order : List ℕ) → IsOrder must count order → (most : ℕ) (done : List ℕ) → IsTaken done → length done + most ≡ count → length (taken_so waits most count done) ≡ count
  all_long order o zero done h n = omega (arith, n)
  all_long order o (suc most) done h n = by (λ more g m. all_long order o most more g m) (ready done) refl
    where
      by : ((more : List ℕ) → IsTaken more → length more + most ≡ count → length (taken_so waits most count more) ≡ count) → (ks : List ℕ) → ready done ≡ ks
          → length (taken_next (taken_so waits most count) done ks) ≡ count
      by again [] e = absurd (one_is_free order done o h (omega (arith, n)) e)
      by again (k ∷ ks) e = again (done ++ k ∷ []) (first_taken done k ks h e) (let long = length-append done (k ∷ []) in omega (arith, long, n))

  -- ---- where one is always free

  abbrev pub IsAlwaysFree : Type 0
  IsAlwaysFree = (done : List ℕ) (k : ℕ) → k < count → stands done k ≡ false → (j : ℕ) × (j < count) × (waits done j ≡ false)

  one_left : (done : List ℕ) → IsAlwaysFree → IsTaken done → length done < count → ready done ≡ [] → ⊥
  one_left done free h few e = by h.left refl
    where
      by : (xs : List ℕ) → h.left ≡ xs → ⊥
      by [] none =
          let one = left_long done h in
          let two : length h.left ≡ 0 = ap length none in
          absurd (omega (arith, one, two, few))
      by (x ∷ xs) some =
          let at : slice_get h.left 0 ≡ Some x = ap (λ ys. slice_get ys 0) some in
          let inside : stands (done ++ h.left) x ≡ true = stands_append done h.left x ∙ or_true (stands done x) (stands h.left x) (there_stands h.left 0 x at) in
          let low = from_within 0 count x (permuted (from_on 0 count) (done ++ h.left) x h.all ∙ inside) in
          let f = free done x (omega (arith, low)) (left_is_left count done h.left x 0 h.all at) in
          let lt = f.1 in
          none_kept (λ j. not (waits done j)) (from_on 0 count) f.0 e (from_stands 0 count f.0 (omega arith) (omega (arith, lt))) (not_not (waits done f.0) f.2)

  free_long : IsAlwaysFree → (most : ℕ) (done : List ℕ) → IsTaken done → length done + most ≡ count → length (taken_so waits most count done) ≡ count
  free_long free zero done h n = omega (arith, n)
  free_long free (suc most) done h n = by (λ more g m. free_long free most more g m) (ready done) refl
    where
      by : ((more : List ℕ) → IsTaken more → length more + most ≡ count → length (taken_so waits most count more) ≡ count) → (ks : List ℕ) → ready done ≡ ks
          → length (taken_next (taken_so waits most count) done ks) ≡ count
      by again [] e = absurd (one_left done free h (omega (arith, n)) e)
      by again (k ∷ ks) e = again (done ++ k ∷ []) (first_taken done k ks h e) (let long = length-append done (k ∷ []) in omega (arith, long, n))

-- ---- all of them

whole_taken : (n count : ℕ) (order told : List ℕ) → (t : Bool) → (n == count) ≡ t → cond t (Some order) None ≡ Some told → (n ≡ count) × (order ≡ told)
whole_taken n count order told true h e = (grind (arith, nat_tests, h), cc)
whole_taken n count order told false h e = absurd (let f : None ≡ Some told = e in cc)

same_number : (n m : ℕ) → n ≡ m → (n == m) ≡ true
same_number n m e = grind (arith, nat_tests, e)

pub takes_in_order : (must : ℕ → ℕ → Type 0) (waits : List ℕ → ℕ → Bool) → IsWaiting must waits → TakesInOrder must waits
takes_in_order must waits w count told within e =
    let both = whole_taken (length done) count done told (length done == count) refl e in
    subst (IsOrder must count) both.1 (in_order must waits w count done within (taken_all must waits w count count [] (none_taken must waits w count)) both.0)
  where
    done : List ℕ
    done = taken_so waits count count []

pub takes_all : (must : ℕ → ℕ → Type 0) (waits : List ℕ → ℕ → Bool) → IsWaiting must waits → TakesAll must waits
takes_all must waits w count order o = (
  taken_so waits count count [],
  ap (λ t. cond t (Some (taken_so waits count count [])) None)
      (same_number (length (taken_so waits count count [])) count (all_long must waits w count order o count [] (none_taken must waits w count) (omega arith))),
)

pub takes_where_free : (must : ℕ → ℕ → Type 0) (waits : List ℕ → ℕ → Bool) (w : IsWaiting must waits) (count : ℕ) → IsAlwaysFree must waits w count → (told : List ℕ) × (all_taken waits count ≡ Some told)
takes_where_free must waits w count free = (
  taken_so waits count count [],
  ap (λ t. cond t (Some (taken_so waits count count [])) None)
      (same_number (length (taken_so waits count count [])) count (free_long must waits w count free count [] (none_taken must waits w count) (omega arith))),
)
