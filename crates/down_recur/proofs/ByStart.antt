-- Segments by their starts: the one list that rises and in which those of one start stand as they stood.
use Rattle.std.proofs.Common.{◌≡◌, ℕ, ◌<◌, ◌≤◌, zero, suc, List, [], ◌∷◌, filter, length, slice_index_or, nat_eq, nat_lt, cond, Bool, true, false, not, ◌&&◌, refl, sym, ap, ◌∙◌, subst, arith}
use Rattle.std.proofs.lemmas.Bool.Decides.{nat_tests}
use Rattle.std.specs.List.{AllByRecursion}
use Rattle.std.specs.List.Sorted.{IsNonDecreasingBy, IsStableByKey, ties}
use Rattle.std.specs.Ordering.{is_lt, nat_cmp}
use Rattle.down_recur.specs.Due.{by_start, put}
use Rattle.down_recur.specs.declared.segment.Segment.{Segment}

-- ---- of lists

abbrev AllLater : (Segment → Segment → Type 0) → List Segment → Type 0
AllLater R [] = Unit {0}
AllLater R (x ∷ xs) = AllByRecursion (R x) xs × AllLater R xs

all_kept : (P : Segment → Type 0) (p : Segment → Bool) (xs : List Segment) → AllByRecursion P xs → AllByRecursion P (filter p xs)
all_kept P p [] h = tt
all_kept P p (x ∷ xs) h = by (all_kept P p xs h.1) (p x)
  where
    by : AllByRecursion P (filter p xs) → (b : Bool) → AllByRecursion P (cond b (x ∷ filter p xs) (filter p xs))
    by rest true = (h.0, rest)
    by rest false = rest

all_at : (P : Segment → Type 0) (xs : List Segment) → ((k : ℕ) (d : Segment) → k < length xs → P (slice_index_or xs k d)) → AllByRecursion P xs
all_at P [] h = tt
all_at P (x ∷ xs) h = (h zero x (omega arith), all_at P xs (λ k d w. h (suc k) d (omega arith)))

later_at : (R : Segment → Segment → Type 0) (xs : List Segment) → ((i j : ℕ) (d : Segment) → i < j → j < length xs → R (slice_index_or xs i d) (slice_index_or xs j d)) → AllLater R xs
later_at R [] h = tt
later_at R (x ∷ xs) h = (all_at (R x) xs (λ k d w. h zero (suc k) d (omega arith) (omega arith)), later_at R xs (λ i j d a b. h (suc i) (suc j) d (omega arith) (omega arith)))

all_imp : (P Q : Segment → Type 0) → ((x : Segment) → P x → Q x) → (xs : List Segment) → AllByRecursion P xs → AllByRecursion Q xs
all_imp P Q f [] h = tt
all_imp P Q f (x ∷ xs) h = (f x h.0, all_imp P Q f xs h.1)

-- two things of which at most one is there may change places
swapped : (a b : Segment) (l : List Segment) (p q : Bool) → (p ≡ true → q ≡ true → ⊥) → cond q (b ∷ cond p (a ∷ l) l) (cond p (a ∷ l) l) ≡ cond p (a ∷ cond q (b ∷ l) l) (cond q (b ∷ l) l)
swapped a b l true true h = absurd (h refl refl)
swapped a b l true false h = refl
swapped a b l false true h = refl
swapped a b l false false h = refl

abbrev tail_of : List Segment → List Segment
tail_of [] = []
tail_of (x ∷ xs) = xs

abbrev head_or : Segment → List Segment → Segment
head_or d [] = d
head_or d (x ∷ xs) = x

same_rest : (y : Segment) (b : Bool) (l m : List Segment) → cond b (y ∷ l) l ≡ cond b (y ∷ m) m → l ≡ m
same_rest y true l m e = ap tail_of e
same_rest y false l m e = e

-- ---- of starts

abbrev Rises : Segment → Segment → Type 0
Rises a b = a.start ≤ b.start

abbrev is_tied : Segment → Segment → Bool
is_tied x y = nat_eq x.start y.start

tie_is : (a b : ℕ) → (not (is_lt (nat_cmp a b)) && not (is_lt (nat_cmp b a))) ≡ nat_eq a b
tie_is a b = grind (arith, nat_tests)

tied : (a b : ℕ) → nat_eq a b ≡ true → a ≡ b
tied a b e = grind (arith, nat_tests)

untied : (a b : ℕ) → nat_eq a b ≡ false → a ≡ b → ⊥
untied a b e h = grind (arith, nat_tests)

itself : (a : ℕ) → nat_eq a a ≡ true
itself a = grind (arith, nat_tests)

below : (a b : ℕ) → nat_lt a b ≡ true → a < b
below a b e = grind (arith, nat_tests)

not_below : (a b : ℕ) → nat_lt a b ≡ false → b ≤ a
not_below a b e = grind (arith, nat_tests)

-- ---- of the list by starts

all_put : (P : Segment → Type 0) (a : Segment) (xs : List Segment) → P a → AllByRecursion P xs → AllByRecursion P (put a xs)
all_put P a [] p h = (p, tt)
all_put P a (b ∷ bs) p h = by (all_put P a bs p h.1) (nat_lt b.start a.start)
  where
    by : AllByRecursion P (put a bs) → (c : Bool) → AllByRecursion P (cond c (b ∷ put a bs) (a ∷ b ∷ bs))
    by rest true = (h.0, rest)
    by rest false = (p, h)

put_rises : (a : Segment) (xs : List Segment) → AllLater Rises xs → AllLater Rises (put a xs)
put_rises a [] h = (tt, tt)
put_rises a (b ∷ bs) h = by (put_rises a bs h.1) (nat_lt b.start a.start) refl
  where
    by : AllLater Rises (put a bs) → (c : Bool) → nat_lt b.start a.start ≡ c → AllLater Rises (cond c (b ∷ put a bs) (a ∷ b ∷ bs))
    by rest true e = let lt = below b.start a.start e in (all_put (Rises b) a bs (omega arith) h.0, rest)
    by rest false e = let le = not_below b.start a.start e in ((le, all_imp (Rises b) (Rises a) (λ x g. omega arith) bs h.0), h)

by_start_rises : (xs : List Segment) → AllLater Rises (by_start xs)
by_start_rises [] = tt
by_start_rises (x ∷ xs) = put_rises x (by_start xs) (by_start_rises xs)

not_both : (x a b : Segment) → nat_lt b.start a.start ≡ true → is_tied x a ≡ true → is_tied x b ≡ true → ⊥
not_both x a b e p q = let lt = below b.start a.start e in let one = tied x.start a.start p in let other = tied x.start b.start q in absurd (omega arith)

put_stable : (x a : Segment) (ys : List Segment) → filter (is_tied x) (put a ys) ≡ filter (is_tied x) (a ∷ ys)
put_stable x a [] = refl
put_stable x a (b ∷ bs) = by (put_stable x a bs) (nat_lt b.start a.start) refl
  where
    by : filter (is_tied x) (put a bs) ≡ filter (is_tied x) (a ∷ bs) → (c : Bool) → nat_lt b.start a.start ≡ c → filter (is_tied x) (cond c (b ∷ put a bs) (a ∷ b ∷ bs)) ≡ filter (is_tied x) (a ∷ b ∷ bs)
    by rest true e = ap (λ l. cond (is_tied x b) (b ∷ l) l) rest ∙ swapped a b (filter (is_tied x) bs) (is_tied x a) (is_tied x b) (not_both x a b e)
    by rest false e = refl

by_start_stable : (x : Segment) (xs : List Segment) → filter (is_tied x) (by_start xs) ≡ filter (is_tied x) xs
by_start_stable x [] = refl
by_start_stable x (a ∷ more) = put_stable x a (by_start more) ∙ ap (λ l. cond (is_tied x a) (a ∷ l) l) (by_start_stable x more)

-- ---- one list

rises_to : (z y : Segment) (zs rest : List Segment) → AllByRecursion (Rises z) zs → filter (is_tied y) zs ≡ y ∷ rest → Rises z y
rises_to z y zs rest h e = (subst (AllByRecursion (Rises z)) e (all_kept (Rises z) (is_tied y) zs h)).0

headed : (y : Segment) (ys : List Segment) → filter (is_tied y) (y ∷ ys) ≡ y ∷ filter (is_tied y) ys
headed y ys = ap (λ b. cond b (y ∷ filter (is_tied y) ys) (filter (is_tied y) ys)) (itself y.start)

passed : (y z : Segment) (zs : List Segment) (b : Bool) → is_tied y z ≡ b → filter (is_tied y) (z ∷ zs) ≡ cond b (z ∷ filter (is_tied y) zs) (filter (is_tied y) zs)
passed y z zs b e = ap (λ c. cond c (z ∷ filter (is_tied y) zs) (filter (is_tied y) zs)) e

tied_back : (y z : ℕ) → nat_eq y z ≡ false → nat_eq z y ≡ false
tied_back y z e = grind (arith, nat_tests)

-- two lists that rise, of which those of each start are the same, are one
same : (ys zs : List Segment) → AllLater Rises ys → AllLater Rises zs → ((x : Segment) → filter (is_tied x) ys ≡ filter (is_tied x) zs) → ys ≡ zs
same [] [] h k e = refl
same [] (z ∷ zs) h k e = let q : [] ≡ z ∷ filter (is_tied z) zs = e z ∙ headed z zs in absurd cc
same (y ∷ ys) [] h k e = let q : [] ≡ y ∷ filter (is_tied y) ys = sym (e y) ∙ headed y ys in absurd cc
same (y ∷ ys) (z ∷ zs) h k e = by (same ys zs h.1 k.1) (is_tied y z) refl
  where
    by : (((x : Segment) → filter (is_tied x) ys ≡ filter (is_tied x) zs) → ys ≡ zs) → (b : Bool) → is_tied y z ≡ b → y ∷ ys ≡ z ∷ zs
    by next true t =
        let heads : y ≡ z = ap (head_or y) (sym (headed y ys) ∙ e y ∙ passed y z zs true t) in
        let rests : ys ≡ zs = next (λ x. same_rest y (is_tied x y) (filter (is_tied x) ys) (filter (is_tied x) zs) (e x ∙ ap (λ w. cond (is_tied x w) (w ∷ filter (is_tied x) zs) (filter (is_tied x) zs)) (sym heads))) in
        ap (λ w. w ∷ ys) heads ∙ ap (λ l. z ∷ l) rests
    by next false t =
        let one : Rises z y = rises_to z y zs (filter (is_tied y) ys) k.0 (sym (passed y z zs false t) ∙ sym (e y) ∙ headed y ys) in
        let other : Rises y z = rises_to y z ys (filter (is_tied z) zs) h.0 (sym (passed z y ys false (tied_back y.start z.start t)) ∙ e z ∙ headed z zs) in
        absurd (untied y.start z.start t (omega arith))

tests_agree : (x : Segment) (xs : List Segment) → filter (ties (λ a b. is_lt (nat_cmp a.start b.start)) x) xs ≡ filter (is_tied x) xs
tests_agree x [] = refl
tests_agree x (y ∷ ys) =
    ap (λ b. cond b (y ∷ filter (ties (λ a b. is_lt (nat_cmp a.start b.start)) x) ys) (filter (ties (λ a b. is_lt (nat_cmp a.start b.start)) x) ys)) (tie_is x.start y.start)
    ∙ ap (λ l. cond (is_tied x y) (y ∷ l) l) (tests_agree x ys)

-- What is sorted by starts, and has those of one start as they stood, is what the definition gives.
pub only_by_start : (xs ys : List Segment) → IsNonDecreasingBy (λ s. s.start) ys → IsStableByKey (λ s. s.start) nat_cmp xs ys → ys ≡ by_start xs
only_by_start xs ys h k =
    same ys (by_start xs) (later_at Rises ys (λ i j d lt within. h i j d (omega arith) within)) (by_start_rises xs)
    (λ x. sym (tests_agree x ys) ∙ k x ∙ tests_agree x xs ∙ sym (by_start_stable x xs))

rises_at : (xs : List Segment) → AllLater Rises xs → (i j : ℕ) (d : Segment) → i ≤ j → j < length xs → (slice_index_or xs i d).start ≤ (slice_index_or xs j d).start
rises_at [] h i j d a k = absurd (omega arith)
rises_at (x ∷ xs) h zero zero d a k = omega arith
rises_at (x ∷ xs) h zero (suc j) d a k = first_rises x xs h.0 j d (omega arith)
  where
    first_rises : (x : Segment) (ys : List Segment) → AllByRecursion (Rises x) ys → (j : ℕ) (d : Segment) → j < length ys → x.start ≤ (slice_index_or ys j d).start
    first_rises x [] h j d k = absurd (omega arith)
    first_rises x (y ∷ ys) h zero d k = h.0
    first_rises x (y ∷ ys) h (suc j) d k = first_rises x ys h.1 j d (omega arith)
rises_at (x ∷ xs) h (suc i) zero d a k = absurd (omega arith)
rises_at (x ∷ xs) h (suc i) (suc j) d a k = rises_at xs h.1 i j d (omega arith) (omega arith)

-- the list by starts rises
pub rises_by_start : (xs : List Segment) (i j : ℕ) (d : Segment) → i ≤ j → j < length (by_start xs) → (slice_index_or (by_start xs) i d).start ≤ (slice_index_or (by_start xs) j d).start
rises_by_start xs = rises_at (by_start xs) (by_start_rises xs)
