-- Lists in order: a sorted list with the elements of another is that one sorted.
use Rattle.std.proofs.Common.{◌≡◌, ℕ, zero, suc, ◌+◌, ◌<◌, Bool, true, false, cond, List, [], ◌∷◌, length, get_or, set, length-set, refl, sym, ap, subst, ◌∙◌, arith}
use Rattle.std.specs.Cmp.{IsTotalOrder}
use Rattle.std.specs.Ordering.{is_gt, is_lt, is_eq, ordering_reverse}
use Rattle.std.specs.declared.cmp.Ordering.{Ordering}
use Rattle.std.specs.declared.cmp.Ordering.TheVariants.{Less, Equal, Greater}
use Rattle.std.specs.List.{swap, AllByRecursion}
use Rattle.std.specs.List.Sorted.{IsPermutation, IsSorted}
use Rattle.std.proofs.lemmas.Bool.{false≢true}
use Rattle.std.proofs.lemmas.Cmp.{upto, tied_itself}
use Rattle.std.proofs.lemmas.Map.Lookups.{CmpEqualImpliesEq}
use Rattle.std.proofs.lemmas.List.{get_or-set_same, get_or-set_other}
use Rattle.std.proofs.lemmas.List.Edits.{swap_is}
use Rattle.std.proofs.lemmas.List.Sorted.{IsPermutation-keeps, IsPermutation-refl, IsPermutation-cons, IsPermutation-trans, IsPermutation-middle}
use native.Mathlib.Decide.{ℕ_discrete}
use Rattle.dsl_lib.specs.Arrays.{put_in, sorted}
use Rattle.dsl_lib.specs.Laws.{Rises}

module _ {A : Type 0} {cmp : A → A → Ordering} (o : IsTotalOrder cmp) (exact : CmpEqualImpliesEq cmp) where
  both_by : (x y : A) (r s : Ordering) → cmp x y ≡ r → r ≡ ordering_reverse s → is_gt r ≡ false → is_gt s ≡ false → x ≡ y
  both_by x y Less Less e f g h = cc
  both_by x y Less Equal e f g h = cc
  both_by x y Less Greater e f g h = absurd (false≢true (sym h))
  both_by x y Equal s e f g h = exact x y e
  both_by x y Greater s e f g h = absurd (false≢true (sym g))

  both_le : (x y : A) → is_gt (cmp x y) ≡ false → is_gt (cmp y x) ≡ false → x ≡ y
  both_le x y g h = both_by x y (cmp x y) (cmp y x) refl (o.antisymm x y) g h

  not_by : (r s : Ordering) → r ≡ ordering_reverse s → is_gt r ≡ true → is_gt s ≡ false
  not_by r Less f g = refl
  not_by r Equal f g = refl
  not_by r Greater f g = absurd (false≢true (sym (ap is_gt f) ∙ g))

  gt_not_back : (x y : A) → is_gt (cmp x y) ≡ true → is_gt (cmp y x) ≡ false
  gt_not_back x y g = not_by (cmp x y) (cmp y x) (o.antisymm x y) g

  -- what is greater than z is greater than what isn't
  gt_through : (x y z : A) → is_gt (cmp y z) ≡ false → is_gt (cmp x z) ≡ true → is_gt (cmp x y) ≡ true
  gt_through x y z h g = by (is_gt (cmp x y)) refl
    where
      by : (b : Bool) → is_gt (cmp x y) ≡ b → b ≡ true
      by true e = refl
      by false e = sym (upto o x y z e h) ∙ g

  put_by : (b : Bool) (x y : A) (ys : List A) → is_gt (cmp x y) ≡ b → put_in cmp x (y ∷ ys) ≡ cond b (y ∷ put_in cmp x ys) (x ∷ y ∷ ys)
  put_by b x y ys e = ap (λ t. cond t (y ∷ put_in cmp x ys) (x ∷ y ∷ ys)) e

  -- two that go in front of a list
  pair : (x y : A) (zs : List A) → put_in cmp x zs ≡ x ∷ zs → put_in cmp y zs ≡ y ∷ zs → put_in cmp x (y ∷ zs) ≡ put_in cmp y (x ∷ zs)
  pair x y zs ex ey = by (is_gt (cmp x y)) (is_gt (cmp y x)) refl refl
    where
      by : (a b : Bool) → is_gt (cmp x y) ≡ a → is_gt (cmp y x) ≡ b → put_in cmp x (y ∷ zs) ≡ put_in cmp y (x ∷ zs)
      by true b g h = put_by true x y zs g ∙ ap (λ l. y ∷ l) ex ∙ sym (put_by false y x zs (gt_not_back x y g))
      by false true g h = put_by false x y zs g ∙ ap (λ l. x ∷ l) (sym ey) ∙ sym (put_by true y x zs h)
      by false false g h = put_by false x y zs g ∙ (let same : x ≡ y = both_le x y g h in ap (λ w. x ∷ w ∷ zs) (sym same) ∙ ap (λ w. w ∷ x ∷ zs) same) ∙ sym (put_by false y x zs h)

  apart : (x y z : A) (zs : List A) → is_gt (cmp x z) ≡ true → is_gt (cmp y z) ≡ false → put_in cmp x (put_in cmp y (z ∷ zs)) ≡ put_in cmp y (put_in cmp x (z ∷ zs))
  apart x y z zs g h =
      ap (put_in cmp x) (put_by false y z zs h) ∙ put_by true x y (z ∷ zs) (gt_through x y z h g) ∙ ap (λ l. y ∷ l) (put_by true x z zs g)
      ∙ sym (ap (put_in cmp y) (put_by true x z zs g) ∙ put_by false y z (put_in cmp x zs) h)

  -- the order in which two are put in doesn't matter
  put_comm : (x y : A) (zs : List A) → put_in cmp x (put_in cmp y zs) ≡ put_in cmp y (put_in cmp x zs)
  put_comm x y [] = pair x y [] refl refl
  put_comm x y (z ∷ zs) = by (is_gt (cmp x z)) (is_gt (cmp y z)) refl refl (put_comm x y zs)
    where
      by : (a b : Bool) → is_gt (cmp x z) ≡ a → is_gt (cmp y z) ≡ b → put_in cmp x (put_in cmp y zs) ≡ put_in cmp y (put_in cmp x zs) → put_in cmp x (put_in cmp y (z ∷ zs)) ≡ put_in cmp y (put_in cmp x (z ∷ zs))
      by true true g h later =
          ap (put_in cmp x) (put_by true y z zs h) ∙ put_by true x z (put_in cmp y zs) g ∙ ap (λ l. z ∷ l) later
          ∙ sym (ap (put_in cmp y) (put_by true x z zs g) ∙ put_by true y z (put_in cmp x zs) h)
      by true false g h later = apart x y z zs g h
      by false true g h later = sym (apart y x z zs h g)
      by false false g h later = ap (put_in cmp x) (put_by false y z zs h) ∙ pair x y (z ∷ zs) (put_by false x z zs g) (put_by false y z zs h) ∙ sym (ap (put_in cmp y) (put_by false x z zs g))

  abbrev take_out : A → List A → List A
  take_out x [] = []
  take_out x (y ∷ ys) = cond (is_eq (cmp x y)) ys (y ∷ take_out x ys)

  gt_not_eq : (r : Ordering) → is_gt r ≡ true → is_eq r ≡ false
  gt_not_eq Less g = refl
  gt_not_eq Equal g = absurd (false≢true g)
  gt_not_eq Greater g = refl

  take_put : (x : A) (ys : List A) → take_out x (put_in cmp x ys) ≡ ys
  take_put x [] = ap (λ r. cond (is_eq r) [] (x ∷ [])) (tied_itself o x)
  take_put x (y ∷ ys) = by (is_gt (cmp x y)) refl (take_put x ys)
    where
      by : (b : Bool) → is_gt (cmp x y) ≡ b → take_out x (put_in cmp x ys) ≡ ys → take_out x (put_in cmp x (y ∷ ys)) ≡ y ∷ ys
      by true g later = ap (take_out x) (put_by true x y ys g) ∙ ap (λ t. cond t (put_in cmp x ys) (y ∷ take_out x (put_in cmp x ys))) (gt_not_eq (cmp x y) g) ∙ ap (λ l. y ∷ l) later
      by false g later = ap (take_out x) (put_by false x y ys g) ∙ ap (λ r. cond (is_eq r) (y ∷ ys) (x ∷ take_out x (y ∷ ys))) (tied_itself o x)

  -- an element in another's place
  set_put : (l : List A) (i : ℕ) (v d : A) → i < length l → put_in cmp (get_or l i d) (sorted cmp (set l i v)) ≡ put_in cmp v (sorted cmp l)
  set_put [] i v d h = absurd (omega (arith, h))
  set_put (y ∷ ys) zero v d h = put_comm y v (sorted cmp ys)
  set_put (y ∷ ys) (suc i) v d h =
      put_comm (get_or ys i d) y (sorted cmp (set ys i v)) ∙ ap (put_in cmp y) (set_put ys i v d (omega (arith, h))) ∙ put_comm y v (sorted cmp ys)

  at_set : (l : List A) (i j : ℕ) (d : A) → i < length l → j < length l → get_or (set l i (get_or l j d)) j d ≡ get_or l j d
  at_set l i j d hi hj = elim (ℕ_discrete i j) [
    | yes e ↦ ap (λ k. get_or (set l i (get_or l j d)) k d) (sym e) ∙ get_or-set_same l i (get_or l j d) d hi
    | no n ↦ get_or-set_other l i j (get_or l j d) d (λ e. n (sym e))
  ]

  swap_sorted : (l : List A) (i j : ℕ) (d : A) → i < length l → j < length l → sorted cmp (swap l i j) ≡ sorted cmp l
  swap_sorted l i j d hi hj =
      let b : A = get_or l j d in
      let m : List A = set l i b in
      ap (sorted cmp) (sym (swap_is l i j d hi hj))
      ∙ sym (take_put b (sorted cmp (set m j (get_or l i d))))
      ∙ ap (take_out b) (ap (λ x. put_in cmp x (sorted cmp (set m j (get_or l i d)))) (sym (at_set l i j d hi hj)) ∙ set_put m j (get_or l i d) d (omega (arith, hj, length-set l i b)) ∙ set_put l i b d hi)
      ∙ take_put b (sorted cmp l)

  first_or : (l : List A) (i : ℕ) → i < length l → A
  first_or [] i h = absurd (omega (arith, h))
  first_or (x ∷ xs) i h = x

  permuted_sorted : (xs ys : List A) → IsPermutation xs ys → sorted cmp ys ≡ sorted cmp xs
  permuted_sorted xs ys p = IsPermutation-keeps xs (λ l. sorted cmp l ≡ sorted cmp xs) refl (λ l i j hi hj e. swap_sorted l i j (first_or l i hi) hi hj ∙ e) ys p

  not_less : (r s : Ordering) → r ≡ ordering_reverse s → is_lt s ≡ false → is_gt r ≡ false
  not_less r Less e h = absurd (false≢true (sym h))
  not_less r Equal e h = ap is_gt e
  not_less r Greater e h = ap is_gt e

  sorted_same : (ys : List A) → IsSorted cmp ys → sorted cmp ys ≡ ys
  sorted_same [] h = refl
  sorted_same (y ∷ []) h = refl
  sorted_same (y ∷ z ∷ zs) h =
      ap (put_in cmp y) (sorted_same (z ∷ zs) (λ k d low high.
      let e : suc k + 1 ≡ suc (k + 1) = omega arith in
      subst (λ n. is_lt (cmp (get_or (y ∷ z ∷ zs) n d) (get_or (z ∷ zs) k d)) ≡ false) e (h (suc k) d (omega arith) (omega (arith, high)))))
      ∙ put_by false y z zs (not_less (cmp y z) (cmp z y) (o.antisymm y z) (h 0 y (omega arith) (omega arith)))

  -- a sort gives the sorted list
  pub sort_is : (xs ys : List A) → IsPermutation xs ys → IsSorted cmp ys → ys ≡ sorted cmp xs
  sort_is xs ys p h = sym (sorted_same ys h) ∙ permuted_sorted xs ys p

  put_moves : (x : A) (ys : List A) → IsPermutation (x ∷ ys) (put_in cmp x ys)
  put_moves x [] = IsPermutation-refl (x ∷ [])
  put_moves x (y ∷ ys) = by (is_gt (cmp x y)) refl (put_moves x ys)
    where
      by : (b : Bool) → is_gt (cmp x y) ≡ b → IsPermutation (x ∷ ys) (put_in cmp x ys) → IsPermutation (x ∷ y ∷ ys) (put_in cmp x (y ∷ ys))
      by true g later = subst (IsPermutation (x ∷ y ∷ ys)) (sym (put_by true x y ys g)) (IsPermutation-trans (x ∷ y ∷ ys) (y ∷ x ∷ ys) (y ∷ put_in cmp x ys) (IsPermutation-middle (x ∷ []) y ys) (IsPermutation-cons y (x ∷ ys) (put_in cmp x ys) later))
      by false g later = subst (IsPermutation (x ∷ y ∷ ys)) (sym (put_by false x y ys g)) (IsPermutation-refl (x ∷ y ∷ ys))

  -- sorting moves elements
  pub sorted_moves : (xs : List A) → IsPermutation xs (sorted cmp xs)
  sorted_moves [] = IsPermutation-refl []
  sorted_moves (x ∷ xs) = IsPermutation-trans (x ∷ xs) (x ∷ sorted cmp xs) (put_in cmp x (sorted cmp xs)) (IsPermutation-cons x xs (sorted cmp xs) (sorted_moves xs)) (put_moves x (sorted cmp xs))

  all_put : (P : A → Type 0) (x : A) (ys : List A) → P x → AllByRecursion P ys → AllByRecursion P (put_in cmp x ys)
  all_put P x [] p h = (p, tt)
  all_put P x (y ∷ ys) p h = by (is_gt (cmp x y)) refl (all_put P x ys p h.1)
    where
      by : (b : Bool) → is_gt (cmp x y) ≡ b → AllByRecursion P (put_in cmp x ys) → AllByRecursion P (put_in cmp x (y ∷ ys))
      by true g later = subst (AllByRecursion P) (sym (put_by true x y ys g)) (h.0, later)
      by false g later = subst (AllByRecursion P) (sym (put_by false x y ys g)) (p, h)

  all_above : (x y : A) (ys : List A) → is_gt (cmp x y) ≡ false → AllByRecursion (λ z. is_gt (cmp y z) ≡ false) ys → AllByRecursion (λ z. is_gt (cmp x z) ≡ false) ys
  all_above x y [] g h = tt
  all_above x y (z ∷ zs) g h = (upto o x y z g h.0, all_above x y zs g h.1)

  put_rises : (x : A) (ys : List A) → Rises cmp ys → Rises cmp (put_in cmp x ys)
  put_rises x [] h = (tt, tt)
  put_rises x (y ∷ ys) h = by (is_gt (cmp x y)) refl (put_rises x ys h.1)
    where
      by : (b : Bool) → is_gt (cmp x y) ≡ b → Rises cmp (put_in cmp x ys) → Rises cmp (put_in cmp x (y ∷ ys))
      by true g later = subst (Rises cmp) (sym (put_by true x y ys g)) (all_put (λ z. is_gt (cmp y z) ≡ false) x ys (gt_not_back x y g) h.0, later)
      by false g later = subst (Rises cmp) (sym (put_by false x y ys g)) ((g, all_above x y ys g h.0), h)

  -- and puts them in order
  pub sorted_rises : (xs : List A) → Rises cmp (sorted cmp xs)
  sorted_rises [] = tt
  sorted_rises (x ∷ xs) = put_rises x (sorted cmp xs) (sorted_rises xs)
