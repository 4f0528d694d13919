-- Which numbers stand where in an order, and which of them pass a test.
use Rattle.std.proofs.Common.{◌≡◌, ◌+◌, ◌<◌, ◌≤◌, ◌&&◌, ◌||◌, ℕ, zero, suc, nat_eq, Bool, true, false, cond, List, [], ◌∷◌, ◌++◌, length, take, drop, filter, slice_get, refl, sym, ap, ◌∙◌, subst, arith, Some, None, ◌⊎◌, inl, inr, true≢false}
use Rattle.std.proofs.lemmas.Bool.{cases_lt}
use Rattle.std.specs.List.{AllByRecursion}
use Rattle.run_meaning.specs.Turns.{from_on}
use Rattle.site_audit.specs.Order.{stands}
use Rattle.audit_laws.specs.Orders.{IsOrder, StandsBefore}
use Rattle.audit_laws.proofs.Ordering.{eq_is, is_eq, one_place, permuted, there_stands, from_within}

-- ---- places in lists

pub some_is : {A : Type 0} (x y : A) → Some x ≡ Some y → x ≡ y
some_is x y e = cc

pub none_is : {A : Type 0} (x : A) → None ≡ Some x → ⊥
none_is x e = absurd cc

pub get_taken : {A : Type 0} (n : ℕ) (xs : List A) (i : ℕ) (x : A) → slice_get (take n xs) i ≡ Some x → (slice_get xs i ≡ Some x) × (i < n)
get_taken zero xs i x h = absurd cc
get_taken (suc n) [] i x h = absurd cc
get_taken (suc n) (y ∷ ys) zero x h = (h, omega arith)
get_taken (suc n) (y ∷ ys) (suc i) x h = let m = get_taken n ys i x h in (m.0, let lt = m.1 in omega (arith, lt))

pub get_dropped : {A : Type 0} (n : ℕ) (xs : List A) (i : ℕ) (x : A) → slice_get (drop n xs) i ≡ Some x → slice_get xs (n + i) ≡ Some x
get_dropped zero xs i x h = let e : 0 + i ≡ i = omega arith in subst (λ j. slice_get xs j ≡ Some x) (sym e) h
get_dropped (suc n) [] i x h = absurd cc
get_dropped (suc n) (y ∷ ys) i x h = let e : suc n + i ≡ suc (n + i) = omega arith in subst (λ j. slice_get (y ∷ ys) j ≡ Some x) (sym e) (get_dropped n ys i x h)

pub taken_dropped : {A : Type 0} (n : ℕ) (xs : List A) → take n xs ++ drop n xs ≡ xs
taken_dropped zero xs = refl
taken_dropped (suc n) [] = refl
taken_dropped (suc n) (x ∷ xs) = ap (λ ys. x ∷ ys) (taken_dropped n xs)

pub get_behind : {A : Type 0} (xs ys : List A) (n : ℕ) → slice_get (xs ++ ys) (length xs + n) ≡ slice_get ys n
get_behind [] ys n = let e : 0 + n ≡ n = omega arith in ap (slice_get ys) e
get_behind (x ∷ xs) ys n = let e : suc (length xs) + n ≡ suc (length xs + n) = omega arith in ap (slice_get (x ∷ (xs ++ ys))) e ∙ get_behind xs ys n

-- ---- numbers from one on

pub from_at : (j n i a : ℕ) → slice_get (from_on j n) i ≡ Some a → (a ≡ j + i) × (i < n)
from_at j zero i a h = absurd cc
from_at j (suc n) zero a h = let e = some_is j a h in (omega (arith, e), omega arith)
from_at j (suc n) (suc i) a h = let m = from_at (suc j) n i a h in let e = m.0 in let lt = m.1 in (omega (arith, e), omega (arith, lt))

pub from_split : (j a b : ℕ) → from_on j (a + b) ≡ from_on j a ++ from_on (j + a) b
from_split j zero b = let e : 0 + b ≡ b = omega arith in let f : j ≡ j + 0 = omega arith in ap (from_on j) e ∙ ap (λ i. from_on i b) f
from_split j (suc a) b =
    let e : suc a + b ≡ suc (a + b) = omega arith in
    let f : suc j + a ≡ j + suc a = omega arith in
    ap (from_on j) e ∙ ap (λ xs. j ∷ xs) (from_split (suc j) a b ∙ ap (λ i. from_on (suc j) a ++ from_on i b) f)

-- ---- what passes a test

pub all_kept : (test : ℕ → Bool) (P : ℕ → Type 0) (xs : List ℕ) → ((i a : ℕ) → slice_get xs i ≡ Some a → test a ≡ true → P a) → AllByRecursion P (filter test xs)
all_kept test P [] h = tt
all_kept test P (x ∷ xs) h = by (test x) refl (all_kept test P xs (λ i. h (suc i)))
  where
    by : (t : Bool) → test x ≡ t → AllByRecursion P (filter test xs) → AllByRecursion P (cond t (x ∷ filter test xs) (filter test xs))
    by true e more = (h 0 x refl e, more)
    by false e more = more

-- each number is above those before it
abbrev pub Rises : List ℕ → Type 0
Rises [] = Unit {0}
Rises (x ∷ xs) = AllByRecursion (λ y. x < y) xs × Rises xs

pub rises_kept : (test : ℕ → Bool) (xs : List ℕ) → ((i j a b : ℕ) → i < j → slice_get xs i ≡ Some a → slice_get xs j ≡ Some b → test a ≡ true → test b ≡ true → a < b) → Rises (filter test xs)
rises_kept test [] h = tt
rises_kept test (x ∷ xs) h = by (test x) refl (rises_kept test xs (λ i j a b lt. h (suc i) (suc j) a b (omega (arith, lt))))
  where
    by : (t : Bool) → test x ≡ t → Rises (filter test xs) → Rises (cond t (x ∷ filter test xs) (filter test xs))
    by true e more = (all_kept test (λ y. x < y) xs (λ i a at is. h 0 (suc i) x a (omega arith) refl at e is), more)
    by false e more = more

below_none : (x k : ℕ) (xs : List ℕ) → k ≤ x → AllByRecursion (λ y. x < y) xs → stands xs k ≡ false
below_none x k [] le h = refl
below_none x k (y ∷ xs) le h = by (nat_eq k y) refl (below_none x k xs le h.1)
  where
    by : (t : Bool) → nat_eq k y ≡ t → stands xs k ≡ false → (t || stands xs k) ≡ false
    by true e more = let same = eq_is k y e in let lt = h.0 in absurd (omega (arith, same, le, lt))
    by false e more = more

stands_first : (x : ℕ) (xs : List ℕ) → stands (x ∷ xs) x ≡ true
stands_first x xs = ap (λ t. t || stands xs x) (is_eq x x refl)

below_all : (x y : ℕ) (ys : List ℕ) → x < y → Rises (y ∷ ys) → stands (y ∷ ys) x ≡ false
below_all x y ys lt r = by (nat_eq x y) refl
  where
    by : (t : Bool) → nat_eq x y ≡ t → (t || stands ys x) ≡ false
    by true e = let same = eq_is x y e in absurd (omega (arith, same, lt))
    by false e = below_none y x ys (omega (arith, lt)) r.0

-- two that rise are the same where the same numbers stand in them
pub same_rising : (xs ys : List ℕ) → Rises xs → Rises ys → ((k : ℕ) → stands xs k ≡ stands ys k) → xs ≡ ys
same_rising [] [] r q h = refl
same_rising [] (y ∷ ys) r q h = absurd (true≢false (sym (stands_first y ys) ∙ sym (h y)))
same_rising (x ∷ xs) [] r q h = absurd (true≢false (sym (stands_first x xs) ∙ h x))
same_rising (x ∷ xs) (y ∷ ys) r q h = by (cases_lt x y) (cases_lt y x) (λ e. same_rising xs ys r.1 q.1 e)
  where
    tails : x ≡ y → (k : ℕ) → stands xs k ≡ stands ys k
    tails e k = at (nat_eq k x) refl (h k)
      where
        at : (t : Bool) → nat_eq k x ≡ t → (nat_eq k x || stands xs k) ≡ (nat_eq k y || stands ys k) → stands xs k ≡ stands ys k
        at true f g = let same = eq_is k x f in below_none x k xs (omega (arith, same)) r.0 ∙ sym (below_none y k ys (omega (arith, same, e)) q.0)
        at false f g = sym (ap (λ t. t || stands xs k) f) ∙ (g ∙ ap (λ t. t || stands ys k) (sym (ap (nat_eq k) e) ∙ f))

    by : (x < y) ⊎ (y ≤ x) → (y < x) ⊎ (x ≤ y) → (((k : ℕ) → stands xs k ≡ stands ys k) → xs ≡ ys) → x ∷ xs ≡ y ∷ ys
    by (inl lt) o more = absurd (true≢false (sym (stands_first x xs) ∙ (h x ∙ below_all x y ys lt q)))
    by (inr le) (inl lt) more = absurd (true≢false (sym (stands_first y ys) ∙ (sym (h y) ∙ below_all y x xs lt r)))
    by (inr le) (inr ge) more = let e : x ≡ y = omega (arith, le, ge) in ap (λ z. z ∷ xs) e ∙ ap (λ zs. y ∷ zs) (more (tails e))

pub stands_kept : (test : ℕ → Bool) (xs : List ℕ) (k : ℕ) → stands (filter test xs) k ≡ (test k && stands xs k)
stands_kept test [] k = by (test k)
  where
    by : (t : Bool) → false ≡ (t && false)
    by true = refl
    by false = refl
stands_kept test (x ∷ xs) k = by (test x) refl (nat_eq k x) refl (stands_kept test xs k)
  where
    other : (t : Bool) → nat_eq k x ≡ false → stands (filter test xs) k ≡ (test k && stands xs k) → stands (cond t (x ∷ filter test xs) (filter test xs)) k ≡ (test k && (false || stands xs k))
    other true f ih = ap (λ t. t || stands (filter test xs) k) f ∙ ih
    other false f ih = ih

    by : (t : Bool) → test x ≡ t → (u : Bool) → nat_eq k x ≡ u → stands (filter test xs) k ≡ (test k && stands xs k) → stands (cond t (x ∷ filter test xs) (filter test xs)) k ≡ (test k && (u || stands xs k))
    by true e true f ih = ap (λ t. t || stands (filter test xs) k) f ∙ sym (ap (λ t. t && (true || stands xs k)) (ap test (eq_is k x f) ∙ e))
    by false e true f ih =
        let no : test k ≡ false = ap test (eq_is k x f) ∙ e in
        ih ∙ (ap (λ t. t && stands xs k) no ∙ sym (ap (λ t. t && (true || stands xs k)) no))
    by t e false f ih = other t f ih

-- ---- orders

module _ (must : ℕ → ℕ → Type 0) (count : ℕ) (order : List ℕ) (o : IsOrder must count order) where
  -- a number stands at one place alone
  pub same_place : (i j k : ℕ) → slice_get order i ≡ Some k → slice_get order j ≡ Some k → i ≡ j
  same_place i j k at there = by (cases_lt i j) (cases_lt j i)
    where
      by : (i < j) ⊎ (j ≤ i) → (j < i) ⊎ (i ≤ j) → i ≡ j
      by (inl lt) x = absurd (one_place count order k i j o.whole at there lt)
      by (inr le) (inl lt) = absurd (one_place count order k j i o.whole there at lt)
      by (inr le) (inr ge) = omega (arith, le, ge)

  pub is_before : (a b i j : ℕ) → must a b → slice_get order i ≡ Some a → slice_get order j ≡ Some b → i < j
  is_before a b i j m at there =
      let s : StandsBefore order a b = o.meets a b m in
      let one = same_place i s.first a at s.a_is in
      let two = same_place j s.second b there s.b_is in
      let lt = s.earlier in
      omega (arith, one, two, lt)

  -- those that must stand in the order of their numbers do so
  pub kept_in_order : (test : ℕ → Bool) → ((a b : ℕ) → a < b → test a ≡ true → test b ≡ true → b < count → must a b) → filter test order ≡ filter test (from_on 0 count)
  kept_in_order test h = same_rising (filter test order) (filter test (from_on 0 count)) (rises_kept test order rise) (rises_kept test (from_on 0 count) (λ i j a b lt at there s t. let x = (from_at 0 count i a at).0 in let y = (from_at 0 count j b there).0 in omega (arith, x, y, lt))) same
    where
      same : (k : ℕ) → stands (filter test order) k ≡ stands (filter test (from_on 0 count)) k
      same k = stands_kept test order k ∙ (ap (λ t. test k && t) (sym (permuted (from_on 0 count) order k o.whole)) ∙ sym (stands_kept test (from_on 0 count) k))

      inside : (i k : ℕ) → slice_get order i ≡ Some k → k < count
      inside i k at =
          let s : stands (from_on 0 count) k ≡ true = permuted (from_on 0 count) order k o.whole ∙ there_stands order i k at in
          let lt = within_from k s in
          lt
        where
          within_from : (k : ℕ) → stands (from_on 0 count) k ≡ true → k < count
          within_from k e = let lt = from_within 0 count k e in omega (arith, lt)

      rise : (i j a b : ℕ) → i < j → slice_get order i ≡ Some a → slice_get order j ≡ Some b → test a ≡ true → test b ≡ true → a < b
      rise i j a b lt at there s t = by (cases_lt a b) (cases_lt b a)
        where
          by : (a < b) ⊎ (b ≤ a) → (b < a) ⊎ (a ≤ b) → a < b
          by (inl up) x = up
          by (inr le) (inl down) = let back = is_before b a j i (h b a down t s (inside i a at)) there at in absurd (omega (arith, back, lt))
          by (inr le) (inr ge) =
              let e : b ≡ a = omega (arith, le, ge) in
              let one = same_place i j a at (there ∙ ap (λ z. Some z) e) in
              absurd (omega (arith, one, lt))

-- a list is cut at one place alone where the front is below a number and the rest isn't
pub cut_same : (q : ℕ) (as' bs cs ds : List ℕ) → as' ++ bs ≡ cs ++ ds → AllByRecursion (λ a. a < q) as' → AllByRecursion (λ a. a < q) cs → AllByRecursion (λ a. q ≤ a) bs → AllByRecursion (λ a. q ≤ a) ds → as' ≡ cs
cut_same q [] bs [] ds e a c b d = refl
cut_same q [] [] (x ∷ cs) ds e a c b d = absurd cc
cut_same q [] (y ∷ bs) (x ∷ cs) ds e a c b d = let same : y ≡ x = cc in let lt = c.0 in let le = b.0 in absurd (omega (arith, same, lt, le))
cut_same q (x ∷ as') bs [] [] e a c b d = absurd cc
cut_same q (x ∷ as') bs [] (y ∷ ds) e a c b d = let same : x ≡ y = cc in let lt = a.0 in let le = d.0 in absurd (omega (arith, same, lt, le))
cut_same q (x ∷ as') bs (y ∷ cs) ds e a c b d = let same : x ≡ y = cc in let rest : as' ++ bs ≡ cs ++ ds = cc in ap (λ z. z ∷ as') same ∙ ap (λ zs. y ∷ zs) (cut_same q as' bs cs ds rest a.1 c.1 b d)
