-- Things by their numbers: the one list that rises and in which those of one number stand as they stood.
use Rattle.std.proofs.Common.{◌≡◌, ℕ, ◌<◌, ◌≤◌, zero, suc, List, [], ◌∷◌, All, filter, length, slice_index_or, nat_eq, nat_lt, cond, Bool, true, false, not, ◌&&◌, refl, sym, ap, ◌∙◌, subst, arith}
use Rattle.std.proofs.lemmas.Bool.Decides.{nat_tests}
use Rattle.std.proofs.lemmas.List.Elements.{All-cons, All-head, All-nil, All-tail}
use Rattle.std.specs.List.{AllByRecursion}
use Rattle.std.specs.List.Sorted.{IsNonDecreasingBy, IsStableByKey, ties}
use Rattle.std.specs.Ordering.{is_lt, nat_cmp}
use Rattle.history_carry.specs.Ascending.{ascending, put}

-- ---- of numbers

tie_is : (a b : ℕ) → (not (is_lt (nat_cmp a b)) && not (is_lt (nat_cmp b a))) ≡ nat_eq a b
tie_is a b = grind (arith, nat_tests)

tied : (a b : ℕ) → nat_eq a b ≡ true → a ≡ b
tied a b e = grind (arith, nat_tests)

untied : (a b : ℕ) → nat_eq a b ≡ false → a ≡ b → ⊥
untied a b e h = grind (arith, nat_tests)

itself : (a : ℕ) → nat_eq a a ≡ true
itself a = grind (arith, nat_tests)

below : (a b : ℕ) → nat_lt a b ≡ true → a < b
below a b e = grind (arith, nat_tests)

not_below : (a b : ℕ) → nat_lt a b ≡ false → b ≤ a
not_below a b e = grind (arith, nat_tests)

tied_back : (y z : ℕ) → nat_eq y z ≡ false → nat_eq z y ≡ false
tied_back y z e = grind (arith, nat_tests)

-- ---- of lists

module _ {A : Type 0} where
  abbrev AllLater : (A → A → Type 0) → List A → Type 0
  AllLater R [] = Unit {0}
  AllLater R (x ∷ xs) = AllByRecursion (R x) xs × AllLater R xs

  all_kept : (P : A → Type 0) (p : A → Bool) (xs : List A) → AllByRecursion P xs → AllByRecursion P (filter p xs)
  all_kept P p [] h = tt
  all_kept P p (x ∷ xs) h = by (all_kept P p xs h.1) (p x)
    where
      by : AllByRecursion P (filter p xs) → (b : Bool) → AllByRecursion P (cond b (x ∷ filter p xs) (filter p xs))
      by rest true = (h.0, rest)
      by rest false = rest

  all_at : (P : A → Type 0) (xs : List A) → ((k : ℕ) (d : A) → k < length xs → P (slice_index_or xs k d)) → AllByRecursion P xs
  all_at P [] h = tt
  all_at P (x ∷ xs) h = (h zero x (omega arith), all_at P xs (λ k d w. h (suc k) d (omega arith)))

  later_at : (R : A → A → Type 0) (xs : List A) → ((i j : ℕ) (d : A) → i < j → j < length xs → R (slice_index_or xs i d) (slice_index_or xs j d)) → AllLater R xs
  later_at R [] h = tt
  later_at R (x ∷ xs) h = (all_at (R x) xs (λ k d w. h zero (suc k) d (omega arith) (omega arith)), later_at R xs (λ i j d a b. h (suc i) (suc j) d (omega arith) (omega arith)))

  all_imp : (P Q : A → Type 0) → ((x : A) → P x → Q x) → (xs : List A) → AllByRecursion P xs → AllByRecursion Q xs
  all_imp P Q f [] h = tt
  all_imp P Q f (x ∷ xs) h = (f x h.0, all_imp P Q f xs h.1)

  -- two things of which at most one is there may change places
  swapped : (a b : A) (l : List A) (p q : Bool) → (p ≡ true → q ≡ true → ⊥) → cond q (b ∷ cond p (a ∷ l) l) (cond p (a ∷ l) l) ≡ cond p (a ∷ cond q (b ∷ l) l) (cond q (b ∷ l) l)
  swapped a b l true true h = absurd (h refl refl)
  swapped a b l true false h = refl
  swapped a b l false true h = refl
  swapped a b l false false h = refl

  abbrev tail_of : List A → List A
  tail_of [] = []
  tail_of (x ∷ xs) = xs

  abbrev head_or : A → List A → A
  head_or d [] = d
  head_or d (x ∷ xs) = x

  same_rest : (y : A) (b : Bool) (l m : List A) → cond b (y ∷ l) l ≡ cond b (y ∷ m) m → l ≡ m
  same_rest y true l m e = ap tail_of e
  same_rest y false l m e = e

-- ---- of the ascending list

module _ {A : Type 0} (n : A → ℕ) where
  abbrev Rises : A → A → Type 0
  Rises a b = n a ≤ n b

  abbrev is_tied : A → A → Bool
  is_tied x y = nat_eq (n x) (n y)

  all_put : (P : A → Type 0) (a : A) (xs : List A) → P a → AllByRecursion P xs → AllByRecursion P (put n a xs)
  all_put P a [] p h = (p, tt)
  all_put P a (b ∷ bs) p h = by (all_put P a bs p h.1) (nat_lt (n b) (n a))
    where
      by : AllByRecursion P (put n a bs) → (c : Bool) → AllByRecursion P (cond c (b ∷ put n a bs) (a ∷ b ∷ bs))
      by rest true = (h.0, rest)
      by rest false = (p, h)

  put_rises : (a : A) (xs : List A) → AllLater Rises xs → AllLater Rises (put n a xs)
  put_rises a [] h = (tt, tt)
  put_rises a (b ∷ bs) h = by (put_rises a bs h.1) (nat_lt (n b) (n a)) refl
    where
      by : AllLater Rises (put n a bs) → (c : Bool) → nat_lt (n b) (n a) ≡ c → AllLater Rises (cond c (b ∷ put n a bs) (a ∷ b ∷ bs))
      by rest true e = let lt = below (n b) (n a) e in (all_put (Rises b) a bs (omega arith) h.0, rest)
      by rest false e = let le = not_below (n b) (n a) e in ((le, all_imp (Rises b) (Rises a) (λ x g. omega arith) bs h.0), h)

  rises : (xs : List A) → AllLater Rises (ascending n xs)
  rises [] = tt
  rises (x ∷ xs) = put_rises x (ascending n xs) (rises xs)

  not_both : (x a b : A) → nat_lt (n b) (n a) ≡ true → is_tied x a ≡ true → is_tied x b ≡ true → ⊥
  not_both x a b e p q = let lt = below (n b) (n a) e in let one = tied (n x) (n a) p in let other = tied (n x) (n b) q in absurd (omega arith)

  put_stable : (x a : A) (ys : List A) → filter (is_tied x) (put n a ys) ≡ filter (is_tied x) (a ∷ ys)
  put_stable x a [] = refl
  put_stable x a (b ∷ bs) = by (put_stable x a bs) (nat_lt (n b) (n a)) refl
    where
      by : filter (is_tied x) (put n a bs) ≡ filter (is_tied x) (a ∷ bs) → (c : Bool) → nat_lt (n b) (n a) ≡ c → filter (is_tied x) (cond c (b ∷ put n a bs) (a ∷ b ∷ bs)) ≡ filter (is_tied x) (a ∷ b ∷ bs)
      by rest true e = ap (λ l. cond (is_tied x b) (b ∷ l) l) rest ∙ swapped a b (filter (is_tied x) bs) (is_tied x a) (is_tied x b) (not_both x a b e)
      by rest false e = refl

  stays : (x : A) (xs : List A) → filter (is_tied x) (ascending n xs) ≡ filter (is_tied x) xs
  stays x [] = refl
  stays x (a ∷ more) = put_stable x a (ascending n more) ∙ ap (λ l. cond (is_tied x a) (a ∷ l) l) (stays x more)

  rises_to : (z y : A) (zs rest : List A) → AllByRecursion (Rises z) zs → filter (is_tied y) zs ≡ y ∷ rest → Rises z y
  rises_to z y zs rest h e = (subst (AllByRecursion (Rises z)) e (all_kept (Rises z) (is_tied y) zs h)).0

  headed : (y : A) (ys : List A) → filter (is_tied y) (y ∷ ys) ≡ y ∷ filter (is_tied y) ys
  headed y ys = ap (λ b. cond b (y ∷ filter (is_tied y) ys) (filter (is_tied y) ys)) (itself (n y))

  passed : (y z : A) (zs : List A) (b : Bool) → is_tied y z ≡ b → filter (is_tied y) (z ∷ zs) ≡ cond b (z ∷ filter (is_tied y) zs) (filter (is_tied y) zs)
  passed y z zs b e = ap (λ c. cond c (z ∷ filter (is_tied y) zs) (filter (is_tied y) zs)) e

  -- two lists that rise, of which those of each number are the same, are one
  same : (ys zs : List A) → AllLater Rises ys → AllLater Rises zs → ((x : A) → filter (is_tied x) ys ≡ filter (is_tied x) zs) → ys ≡ zs
  same [] [] h k e = refl
  same [] (z ∷ zs) h k e = let q : [] ≡ z ∷ filter (is_tied z) zs = e z ∙ headed z zs in absurd cc
  same (y ∷ ys) [] h k e = let q : [] ≡ y ∷ filter (is_tied y) ys = sym (e y) ∙ headed y ys in absurd cc
  same (y ∷ ys) (z ∷ zs) h k e = by (same ys zs h.1 k.1) (is_tied y z) refl
    where
      by : (((x : A) → filter (is_tied x) ys ≡ filter (is_tied x) zs) → ys ≡ zs) → (b : Bool) → is_tied y z ≡ b → y ∷ ys ≡ z ∷ zs
      by next true t =
          let heads : y ≡ z = ap (head_or y) (sym (headed y ys) ∙ e y ∙ passed y z zs true t) in
          let rests : ys ≡ zs = next (λ x. same_rest y (is_tied x y) (filter (is_tied x) ys) (filter (is_tied x) zs) (e x ∙ ap (λ w. cond (is_tied x w) (w ∷ filter (is_tied x) zs) (filter (is_tied x) zs)) (sym heads))) in
          ap (λ w. w ∷ ys) heads ∙ ap (λ l. z ∷ l) rests
      by next false t =
          let one : Rises z y = rises_to z y zs (filter (is_tied y) ys) k.0 (sym (passed y z zs false t) ∙ sym (e y) ∙ headed y ys) in
          let other : Rises y z = rises_to y z ys (filter (is_tied z) zs) h.0 (sym (passed z y ys false (tied_back (n y) (n z) t)) ∙ e z ∙ headed z zs) in
          absurd (untied (n y) (n z) t (omega arith))

  tests_agree : (x : A) (xs : List A) → filter (ties (λ a b. is_lt (nat_cmp (n a) (n b))) x) xs ≡ filter (is_tied x) xs
  tests_agree x [] = refl
  tests_agree x (y ∷ ys) =
      ap (λ b. cond b (y ∷ filter (ties (λ a b. is_lt (nat_cmp (n a) (n b))) x) ys) (filter (ties (λ a b. is_lt (nat_cmp (n a) (n b))) x) ys)) (tie_is (n x) (n y))
      ∙ ap (λ l. cond (is_tied x y) (y ∷ l) l) (tests_agree x ys)

  -- What is sorted by numbers, and has those of one number as they stood, is what the definition gives.
  pub only_ascending : (xs ys : List A) → IsNonDecreasingBy n ys → IsStableByKey n nat_cmp xs ys → ys ≡ ascending n xs
  only_ascending xs ys h k =
      same ys (ascending n xs) (later_at Rises ys (λ i j d lt within. h i j d (omega arith) within)) (rises xs)
      (λ x. sym (tests_agree x ys) ∙ k x ∙ tests_agree x xs ∙ sym (stays x xs))

  put_all : (P : A → Type 0) (a : A) (xs : List A) → P a → All P xs → All P (put n a xs)
  put_all P a [] p h = All-cons P a [] p (All-nil P)
  put_all P a (b ∷ bs) p h = by (put_all P a bs p (All-tail P b bs h)) (nat_lt (n b) (n a))
    where
      by : All P (put n a bs) → (c : Bool) → All P (cond c (b ∷ put n a bs) (a ∷ b ∷ bs))
      by rest true = All-cons P b (put n a bs) (All-head P b bs h) rest
      by rest false = All-cons P a (b ∷ bs) p h

  -- what holds of each thing holds of each in this order
  pub ascending_all : (P : A → Type 0) (xs : List A) → All P xs → All P (ascending n xs)
  ascending_all P [] h = All-nil P
  ascending_all P (x ∷ xs) h = put_all P x (ascending n xs) (All-head P x xs h) (ascending_all P xs (All-tail P x xs h))
