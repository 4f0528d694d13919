-- Things by their numbers: the one list that is sorted by them and in which those of one number stand as they stood.
use Rattle.std.proofs.Common.{◌≡◌, ◌<◌, ℕ, zero, suc, List, [], ◌∷◌, filter, length, slice_index_or, cond, Bool, true, false, not, ◌&&◌, refl, sym, ap, ◌∙◌, subst, true≢false, arith}
use Rattle.std.specs.List.{AllByRecursion}
use Rattle.std.specs.List.Sorted.{IsSortedByKey, IsStableByKey, ties}
use Rattle.std.specs.Ordering.{is_eq, is_lt, is_gt, ordering_reverse}
use Rattle.std.specs.declared.cmp.Ordering.{Ordering}
use Rattle.std.specs.declared.cmp.Ordering.TheVariants.{Less, Equal, Greater}
use Rattle.std.proofs.lemmas.Cmp.{tied_itself}
use Rattle.std.proofs.lemmas.List.Sorted.{sorted_far, ranks_by}
use Rattle.site_base.specs.Order.{by_fields}
use Rattle.site_base.specs.declared.item_no.ItemNo.{ItemNo}
use Rattle.commit_meaning.specs.Orders.{is_behind, inserted, by_number}
use Rattle.commit_meaning.proofs.Lists.{AllLater}
use Rattle.commit_meaning.proofs.Sorting.{total, Rises, by_number_rises}

-- ---- of orderings

tie_is : (r : Ordering) → (not (is_lt r) && not (is_lt (ordering_reverse r))) ≡ is_eq r
tie_is Less = refl
tie_is Equal = refl
tie_is Greater = refl

is_equal : (r : Ordering) → is_eq r ≡ true → r ≡ Equal
is_equal Less e = absurd (true≢false (sym e))
is_equal Equal e = refl
is_equal Greater e = absurd (true≢false (sym e))

back : (r : Ordering) → is_gt (ordering_reverse r) ≡ is_lt r
back Less = refl
back Equal = refl
back Greater = refl

level : (r : Ordering) → is_gt r ≡ false → is_gt (ordering_reverse r) ≡ false → is_eq r ≡ true
level Less h k = absurd (true≢false k)
level Equal h k = refl
level Greater h k = absurd (true≢false h)

-- ---- of lists

module _ {A : Type 0} where
  all_kept : (P : A → Type 0) (p : A → Bool) (xs : List A) → AllByRecursion P xs → AllByRecursion P (filter p xs)
  all_kept P p [] h = tt
  all_kept P p (x ∷ xs) h = by (all_kept P p xs h.1) (p x)
    where
      by : AllByRecursion P (filter p xs) → (b : Bool) → AllByRecursion P (cond b (x ∷ filter p xs) (filter p xs))
      by rest true = (h.0, rest)
      by rest false = rest

  all_at : (P : A → Type 0) (xs : List A) → ((k : ℕ) (d : A) → k < length xs → P (slice_index_or xs k d)) → AllByRecursion P xs
  all_at P [] h = tt
  all_at P (x ∷ xs) h = (h zero x (omega arith), all_at P xs (λ k d w. h (suc k) d (omega arith)))

  later_at : (R : A → A → Type 0) (xs : List A) → ((i j : ℕ) (d : A) → i < j → j < length xs → R (slice_index_or xs i d) (slice_index_or xs j d)) → AllLater R xs
  later_at R [] h = tt
  later_at R (x ∷ xs) h = (all_at (R x) xs (λ k d w. h zero (suc k) d (omega arith) (omega arith)), later_at R xs (λ i j d a b. h (suc i) (suc j) d (omega arith) (omega arith)))

  -- two things of which at most one is there may change places
  swapped : (a b : A) (l : List A) (p q : Bool) → (p ≡ true → q ≡ true → ⊥) → cond q (b ∷ cond p (a ∷ l) l) (cond p (a ∷ l) l) ≡ cond p (a ∷ cond q (b ∷ l) l) (cond q (b ∷ l) l)
  swapped a b l true true h = absurd (h refl refl)
  swapped a b l true false h = refl
  swapped a b l false true h = refl
  swapped a b l false false h = refl

  abbrev tail_of : List A → List A
  tail_of [] = []
  tail_of (x ∷ xs) = xs

  abbrev head_or : A → List A → A
  head_or d [] = d
  head_or d (x ∷ xs) = x

  -- what is behind the same heads, and what is there without them, is the same
  same_rest : (y : A) (b : Bool) (l m : List A) → cond b (y ∷ l) l ≡ cond b (y ∷ m) m → l ≡ m
  same_rest y true l m e = ap tail_of e
  same_rest y false l m e = e

module _ {A : Type 0} (n : A → ItemNo) where
  abbrev is_tied : A → A → Bool
  is_tied x y = ties (λ a b. is_lt (by_fields (n a) (n b))) x y

  tied_by : (x y : A) → is_tied x y ≡ is_eq (by_fields (n x) (n y))
  tied_by x y = ap (λ o. not (is_lt (by_fields (n x) (n y))) && not (is_lt o)) (total.antisymm (n y) (n x)) ∙ tie_is (by_fields (n x) (n y))

  equal_of : (x y : A) → is_tied x y ≡ true → by_fields (n x) (n y) ≡ Equal
  equal_of x y e = is_equal (by_fields (n x) (n y)) (sym (tied_by x y) ∙ e)

  tied_to_itself : (x : A) → is_tied x x ≡ true
  tied_to_itself x = tied_by x x ∙ ap is_eq (tied_itself total (n x))

  -- two of which each may stand before the other have one number
  tied_both : (x y : A) → Rises n x y → Rises n y x → is_tied x y ≡ true
  tied_both x y h k = tied_by x y ∙ level (by_fields (n x) (n y)) h (ap is_gt (sym (total.antisymm (n y) (n x))) ∙ k)

  -- of one that is behind another at most one has the number of a third
  not_both : (x a b : A) → is_behind (n a) (n b) ≡ true → is_tied x a ≡ true → is_tied x b ≡ true → ⊥
  not_both x a b e p q = true≢false (sym e ∙ ap is_gt (sym (total.congr (n x) (n a) (n b) (equal_of x a p)) ∙ equal_of x b q))

  inserted_stable : (x a : A) (ys : List A) → filter (is_tied x) (inserted n a ys) ≡ filter (is_tied x) (a ∷ ys)
  inserted_stable x a [] = refl
  inserted_stable x a (b ∷ bs) = by (inserted_stable x a bs) (is_behind (n a) (n b)) refl
    where
      by : filter (is_tied x) (inserted n a bs) ≡ filter (is_tied x) (a ∷ bs) → (c : Bool) → is_behind (n a) (n b) ≡ c → filter (is_tied x) (cond c (b ∷ inserted n a bs) (a ∷ b ∷ bs)) ≡ filter (is_tied x) (a ∷ b ∷ bs)
      by rest true e = ap (λ l. cond (is_tied x b) (b ∷ l) l) rest ∙ swapped a b (filter (is_tied x) bs) (is_tied x a) (is_tied x b) (not_both x a b e)
      by rest false e = refl

  pub by_number_stable : (x : A) (xs : List A) → filter (is_tied x) (by_number n xs) ≡ filter (is_tied x) xs
  by_number_stable x [] = refl
  by_number_stable x (a ∷ more) = inserted_stable x a (by_number n more) ∙ ap (λ l. cond (is_tied x a) (a ∷ l) l) (by_number_stable x more)

  -- what has a number among things that another may stand before, that one may stand before
  rises_to : (z y : A) (zs rest : List A) → AllByRecursion (Rises n z) zs → filter (is_tied y) zs ≡ y ∷ rest → Rises n z y
  rises_to z y zs rest h e = (subst (AllByRecursion (Rises n z)) e (all_kept (Rises n z) (is_tied y) zs h)).0

  headed : (y : A) (ys : List A) → filter (is_tied y) (y ∷ ys) ≡ y ∷ filter (is_tied y) ys
  headed y ys = ap (λ b. cond b (y ∷ filter (is_tied y) ys) (filter (is_tied y) ys)) (tied_to_itself y)

  passed : (y z : A) (zs : List A) (b : Bool) → is_tied y z ≡ b → filter (is_tied y) (z ∷ zs) ≡ cond b (z ∷ filter (is_tied y) zs) (filter (is_tied y) zs)
  passed y z zs b e = ap (λ c. cond c (z ∷ filter (is_tied y) zs) (filter (is_tied y) zs)) e

  tied_back : (y z : A) → is_tied y z ≡ false → is_tied z y ≡ false
  tied_back y z e = by (is_tied z y) refl
    where
      by : (b : Bool) → is_tied z y ≡ b → is_tied z y ≡ false
      by true p = absurd (true≢false (sym (tied_by y z ∙ ap is_eq (total.antisymm (n y) (n z) ∙ ap ordering_reverse (equal_of z y p))) ∙ e))
      by false p = p

  -- two lists that rise, of which those of each number are the same, are one
  same : (ys zs : List A) → AllLater (Rises n) ys → AllLater (Rises n) zs → ((x : A) → filter (is_tied x) ys ≡ filter (is_tied x) zs) → ys ≡ zs
  same [] [] h k e = refl
  same [] (z ∷ zs) h k e = let q : [] ≡ z ∷ filter (is_tied z) zs = e z ∙ headed z zs in absurd cc
  same (y ∷ ys) [] h k e = let q : [] ≡ y ∷ filter (is_tied y) ys = sym (e y) ∙ headed y ys in absurd cc
  same (y ∷ ys) (z ∷ zs) h k e = by (same ys zs h.1 k.1) (is_tied y z) refl
    where
      by : (((x : A) → filter (is_tied x) ys ≡ filter (is_tied x) zs) → ys ≡ zs) → (b : Bool) → is_tied y z ≡ b → y ∷ ys ≡ z ∷ zs
      by next true t =
          let heads : y ≡ z = ap (head_or y) (sym (headed y ys) ∙ e y ∙ passed y z zs true t) in
          let rests : ys ≡ zs = next (λ x. same_rest y (is_tied x y) (filter (is_tied x) ys) (filter (is_tied x) zs) (e x ∙ ap (λ w. cond (is_tied x w) (w ∷ filter (is_tied x) zs) (filter (is_tied x) zs)) (sym heads))) in
          ap (λ w. w ∷ ys) heads ∙ ap (λ l. z ∷ l) rests
      by next false t =
          let one : Rises n z y = rises_to z y zs (filter (is_tied y) ys) k.0 (sym (passed y z zs false t) ∙ sym (e y) ∙ headed y ys) in
          let other : Rises n y z = rises_to y z ys (filter (is_tied z) zs) h.0 (sym (passed z y ys false (tied_back y z t)) ∙ e z ∙ headed z zs) in
          absurd (true≢false (sym (tied_both y z other one) ∙ t))

  -- a list that is sorted by numbers rises
  rising : (ys : List A) → IsSortedByKey n by_fields ys → AllLater (Rises n) ys
  rising ys h =
      later_at (Rises n) ys (λ i j d lt within. ap is_gt (total.antisymm (n (slice_index_or ys i d)) (n (slice_index_or ys j d))) ∙ back (by_fields (n (slice_index_or ys j d)) (n (slice_index_or ys i d))) ∙ sorted_far (λ a b. is_lt (by_fields (n a) (n b))) (ranks_by total n) ys h i j d (omega arith) within)

  -- What is sorted by numbers, and has those of one number as they stood, is what `by_number` gives.
  pub only_by_number : (xs ys : List A) → IsSortedByKey n by_fields ys → IsStableByKey n by_fields xs ys → ys ≡ by_number n xs
  only_by_number xs ys h k = same ys (by_number n xs) (rising ys h) (by_number_rises n xs) (λ x. k x ∙ sym (by_number_stable x xs))
