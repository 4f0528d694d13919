-- Things by their numbers are the same things, and so are some of them.
use Rattle.std.proofs.Common.{◌≡◌, List, [], ◌∷◌, filter, cond, Bool, true, false, refl, sym, ap, ◌∙◌}
use Rattle.std.specs.List.{AllByRecursion}
use Rattle.site_base.specs.declared.item_no.ItemNo.{ItemNo}
use Rattle.commit_meaning.specs.Orders.{is_behind, inserted, by_number}
use Rattle.commit_meaning.proofs.Lists.{AllLater, all_imp, all_kept}
use Rattle.commit_meaning.proofs.Sorting.{numbers_chain, Rises, by_number_rises}
use Rattle.commit_order.specs.Reordered.{Reordered, empty, behind, swapped, again}
use Rattle.commit_order.proofs.Lists.{itself}

module _ {A : Type 0} (n : A → ItemNo) where
  put_in : (a : A) (xs : List A) → Reordered (inserted n a xs) (a ∷ xs)
  put_in a [] = itself (a ∷ [])
  put_in a (b ∷ bs) = by (put_in a bs) (is_behind (n a) (n b))
    where
      by : Reordered (inserted n a bs) (a ∷ bs) → (c : Bool) → Reordered (cond c (b ∷ inserted n a bs) (a ∷ b ∷ bs)) (a ∷ b ∷ bs)
      by h true = again (behind b h) (swapped b a bs)
      by h false = itself (a ∷ b ∷ bs)

  pub sorted : (xs : List A) → Reordered (by_number n xs) xs
  sorted [] = empty
  sorted (x ∷ xs) = again (put_in x (by_number n xs)) (behind x (sorted xs))

  -- ---- some of them

  -- what is behind none of these goes before them
  goes_first : (a : A) (xs : List A) → AllByRecursion (Rises n a) xs → inserted n a xs ≡ a ∷ xs
  goes_first a [] h = refl
  goes_first a (b ∷ bs) h = ap (λ c. cond c (b ∷ inserted n a bs) (a ∷ b ∷ bs)) h.0

  some_inserted : (p : A → Bool) (a : A) (xs : List A) → AllLater (Rises n) xs → filter p (inserted n a xs) ≡ cond (p a) (inserted n a (filter p xs)) (filter p xs)
  some_inserted p a [] h = refl
  some_inserted p a (b ∷ bs) h = by (is_behind (n a) (n b)) refl (some_inserted p a bs h.1)
    where
      passed : is_behind (n a) (n b) ≡ true → (c d : Bool) → cond d (b ∷ cond c (inserted n a (filter p bs)) (filter p bs)) (cond c (inserted n a (filter p bs)) (filter p bs)) ≡ cond c (inserted n a (cond d (b ∷ filter p bs) (filter p bs))) (cond d (b ∷ filter p bs) (filter p bs))
      passed e true true = ap (λ c. cond c (b ∷ inserted n a (filter p bs)) (a ∷ b ∷ filter p bs)) (sym e)
      passed e true false = refl
      passed e false true = refl
      passed e false false = refl

      first : (c : Bool) (kept : List A) → AllByRecursion (Rises n a) kept → cond c (a ∷ kept) kept ≡ cond c (inserted n a kept) kept
      first true kept k = sym (goes_first a kept k)
      first false kept k = refl

      by : (c : Bool) → is_behind (n a) (n b) ≡ c → filter p (inserted n a bs) ≡ cond (p a) (inserted n a (filter p bs)) (filter p bs) → filter p (cond c (b ∷ inserted n a bs) (a ∷ b ∷ bs)) ≡ cond (p a) (inserted n a (filter p (b ∷ bs))) (filter p (b ∷ bs))
      by true e rest = ap (λ l. cond (p b) (b ∷ l) l) rest ∙ passed e (p a) (p b)
      by false e rest = first (p a) (filter p (b ∷ bs)) (all_kept (Rises n a) p (b ∷ bs) (e, all_imp (Rises n b) (Rises n a) (λ x g. numbers_chain (n a) (n b) (n x) e g) bs h.0))

  pub some_sorted : (p : A → Bool) (xs : List A) → filter p (by_number n xs) ≡ by_number n (filter p xs)
  some_sorted p [] = refl
  some_sorted p (x ∷ xs) = some_inserted p x (by_number n xs) (by_number_rises n xs) ∙ by (p x) (some_sorted p xs)
    where
      by : (c : Bool) → filter p (by_number n xs) ≡ by_number n (filter p xs) → cond c (inserted n x (filter p (by_number n xs))) (filter p (by_number n xs)) ≡ by_number n (cond c (x ∷ filter p xs) (filter p xs))
      by true e = ap (inserted n x) e
      by false e = e
