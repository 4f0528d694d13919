-- A round grows by the entry of a checkable.
use Rattle.std.proofs.Common.{◌≡◌, ◌<◌, ◌≤◌, ◌+◌, ℕ, zero, suc, List, [], ◌∷◌, ◌++◌, length, take, drop, map, filter, slice_get, nat_eq, cond, Bool, true, false, ◌&&◌, Some, None, Option, refl, sym, ap, ◌∙◌, subst, arith, length-append, eqb-true, eq-eqb, inl, inr, ◌⊎◌}
use Rattle.std.proofs.lemmas.List.{append-nil}
use Rattle.std.proofs.lemmas.Bool.Decides.{nat_tests}
use Rattle.std.specs.List.{list_all}
use Rattle.site_model.specs.declared.entry.Entry.{Entry}
use Rattle.run_meaning.specs.Turns.{Histories, of_index}
use Rattle.run_meaning.specs.Alone.{with_entry}
use Rattle.run_meaning.proofs.Lists.{take_front, with_entry_at}

-- Tests.

pub both_left : (a b : Bool) → (a && b) ≡ true → a ≡ true
both_left true b h = refl
both_left false b h = h

pub both_right : (a b : Bool) → (a && b) ≡ true → b ≡ true
both_right true b h = h
both_right false b h = absurd cc

pub both_so : (a b : Bool) → a ≡ true → b ≡ true → (a && b) ≡ true
both_so true b h q = q
both_so false b h q = h

pub all_at : {A : Type 0} (test : A → Bool) (xs : List A) → list_all test xs ≡ true → (i : ℕ) (x : A) → slice_get xs i ≡ Some x → test x ≡ true
all_at test [] h i x at = absurd cc
all_at test (y ∷ ys) h zero x at = let e : y ≡ x = cc in subst (λ z. test z ≡ true) e (both_left (test y) (list_all test ys) h)
all_at test (y ∷ ys) h (suc i) x at = all_at test ys (both_right (test y) (list_all test ys) h) i x at

pub all_so : {A : Type 0} (test : A → Bool) (xs : List A) → ((i : ℕ) (x : A) → slice_get xs i ≡ Some x → test x ≡ true) → list_all test xs ≡ true
all_so test [] h = refl
all_so test (x ∷ xs) h = both_so (test x) (list_all test xs) (h 0 x refl) (all_so test xs (λ i. h (suc i)))

-- Lists.

-- what stands in a list with one more
pub get_last : {A : Type 0} (xs : List A) (y : A) (i : ℕ) (x : A) → slice_get (xs ++ y ∷ []) i ≡ Some x → (slice_get xs i ≡ Some x) ⊎ ((i ≡ length xs) × (x ≡ y))
get_last [] y zero x h = inr (refl, (let e : y ≡ x = cc in sym e))
get_last [] y (suc i) x h = absurd cc
get_last (z ∷ xs) y zero x h = inl h
get_last (z ∷ xs) y (suc i) x h = by (get_last xs y i x h)
  where
    by : (slice_get xs i ≡ Some x) ⊎ ((i ≡ length xs) × (x ≡ y)) → (slice_get xs i ≡ Some x) ⊎ ((suc i ≡ length (z ∷ xs)) × (x ≡ y))
    by (inl g) = inl g
    by (inr (n, e)) = inr (ap suc n, e)

pub drop_whole : {A : Type 0} (xs ys : List A) → drop (length xs) (xs ++ ys) ≡ ys
drop_whole [] ys = refl
drop_whole (x ∷ xs) ys = drop_whole xs ys

-- what is behind a shorter front
pub take_longer : {A : Type 0} (n : ℕ) (old xs ys : List A) → n ≤ length (old ++ xs) → take n (old ++ xs) ≡ take n (old ++ (xs ++ ys))
take_longer zero old xs ys h = refl
take_longer (suc n) [] xs ys h = sym (take_front (suc n) xs ys h)
take_longer (suc n) (o ∷ old) xs ys h = ap (λ z. o ∷ z) (take_longer n old xs ys (omega (arith, h)))

module _ (part : Histories) (k : ℕ) (e : Entry) (fits : k < length part) where
  abbrev grown : Histories
  grown = with_entry k e part

  -- an entry is an older one or the new one
  pub get_grown : (c i : ℕ) (x : Entry) → slice_get (of_index c (with_entry k e part)) i ≡ Some x → (slice_get (of_index c part) i ≡ Some x) ⊎ ((k ≡ c) × (i ≡ length (of_index c part)) × (x ≡ e))
  get_grown c i x h = by (nat_eq k c) refl (ap (λ z. slice_get z i) (sym (with_entry_at c k e part fits)) ∙ h)
    where
      by : (t : Bool) → nat_eq k c ≡ t → slice_get (of_index c part ++ cond t (e ∷ []) []) i ≡ Some x → (slice_get (of_index c part) i ≡ Some x) ⊎ ((k ≡ c) × (i ≡ length (of_index c part)) × (x ≡ e))
      by true q g = new (get_last (of_index c part) e i x g)
        where
          new : (slice_get (of_index c part) i ≡ Some x) ⊎ ((i ≡ length (of_index c part)) × (x ≡ e)) → (slice_get (of_index c part) i ≡ Some x) ⊎ ((k ≡ c) × (i ≡ length (of_index c part)) × (x ≡ e))
          new (inl a) = inl a
          new (inr (n, is)) = inr (eqb-true k c q, n, is)
      by false q g = inl (ap (λ z. slice_get z i) (sym (append-nil (of_index c part))) ∙ g)

  -- a front of what stood still stands
  pub front_grown : (c n : ℕ) → n ≤ length (of_index c part) → take n (of_index c (with_entry k e part)) ≡ take n (of_index c part)
  front_grown c n le = ap (take n) (with_entry_at c k e part fits) ∙ take_front n (of_index c part) (cond (nat_eq k c) (e ∷ []) []) le

  pub behind_grown : (before : Histories) (c n : ℕ) → n ≤ length (of_index c before ++ of_index c part) → take n (of_index c before ++ of_index c part) ≡ take n (of_index c before ++ of_index c (with_entry k e part))
  behind_grown before c n le =
      take_longer n (of_index c before) (of_index c part) (cond (nat_eq k c) (e ∷ []) []) le
      ∙ ap (λ z. take n (of_index c before ++ z)) (sym (with_entry_at c k e part fits))

  pub length_grown : (c : ℕ) → length (of_index c part) ≤ length (of_index c (with_entry k e part))
  length_grown c =
      let a = ap length (with_entry_at c k e part fits) in
      let b = length-append (of_index c part) (cond (nat_eq k c) (e ∷ []) []) in
      omega (arith, a, b)
