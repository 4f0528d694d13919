-- What is so of lists in another order.
use Rattle.std.proofs.Common.{◌≡◌, suc, List, [], ◌∷◌, ◌++◌, length, map, filter, cond, Bool, true, false, refl, sym, ap, ◌∙◌, subst}
use Rattle.std.specs.List.{flat_map, AllByRecursion}
use Rattle.commit_order.specs.Reordered.{Reordered, empty, behind, swapped, again}

module _ {A : Type 0} where
  pub itself : (xs : List A) → Reordered xs xs
  itself [] = empty
  itself (x ∷ xs) = behind x (itself xs)

  pub by_path : (xs ys : List A) → xs ≡ ys → Reordered xs ys
  by_path xs ys e = subst (Reordered xs) e (itself xs)

  -- between two that are known as other lists
  pub between : (xs ys vs ws : List A) → xs ≡ vs → ys ≡ ws → Reordered vs ws → Reordered xs ys
  between xs ys vs ws e f h = again (by_path xs vs e) (again h (by_path ws ys (sym f)))

  pub back : (xs ys : List A) → Reordered xs ys → Reordered ys xs
  back xs ys empty = empty
  back xs ys (behind a h) = behind a (back _ _ h)
  back xs ys (swapped a b more) = swapped b a more
  back xs ys (again h k) = again (back _ _ k) (back _ _ h)

  pub as_long : (xs ys : List A) → Reordered xs ys → length xs ≡ length ys
  as_long xs ys empty = refl
  as_long xs ys (behind a h) = ap suc (as_long _ _ h)
  as_long xs ys (swapped a b more) = refl
  as_long xs ys (again h k) = as_long _ _ h ∙ as_long _ _ k

  pub all_reordered : (P : A → Type 0) (xs ys : List A) → Reordered xs ys → AllByRecursion P xs → AllByRecursion P ys
  all_reordered P xs ys empty all = tt
  all_reordered P xs ys (behind a h) all = (all.0, all_reordered P _ _ h all.1)
  all_reordered P xs ys (swapped a b more) all = (all.1.0, (all.0, all.1.1))
  all_reordered P xs ys (again h k) all = all_reordered P _ _ k (all_reordered P _ _ h all)

  -- ---- one list behind another

  before : (front xs ys : List A) → Reordered xs ys → Reordered (front ++ xs) (front ++ ys)
  before [] xs ys h = h
  before (x ∷ front) xs ys h = behind x (before front xs ys h)

  followed : (xs ys rest : List A) → Reordered xs ys → Reordered (xs ++ rest) (ys ++ rest)
  followed xs ys rest empty = itself rest
  followed xs ys rest (behind a h) = behind a (followed _ _ rest h)
  followed xs ys rest (swapped a b more) = swapped a b (more ++ rest)
  followed xs ys rest (again h k) = again (followed _ _ rest h) (followed _ _ rest k)

  pub joined : (xs ys vs ws : List A) → Reordered xs ys → Reordered vs ws → Reordered (xs ++ vs) (ys ++ ws)
  joined xs ys vs ws h k = again (followed xs ys vs h) (before ys vs ws k)

  -- the first element goes behind others
  moved : (a : A) (xs rest : List A) → Reordered (a ∷ xs ++ rest) (xs ++ a ∷ rest)
  moved a [] rest = itself (a ∷ rest)
  moved a (x ∷ xs) rest = again (swapped a x (xs ++ rest)) (behind x (moved a xs rest))

  exchanged : (xs ys rest : List A) → Reordered (xs ++ (ys ++ rest)) (ys ++ (xs ++ rest))
  exchanged [] ys rest = itself (ys ++ rest)
  exchanged (x ∷ xs) ys rest = again (behind x (exchanged xs ys rest)) (moved x ys (xs ++ rest))

  -- ---- some of the elements

  pub kept : (p : A → Bool) (xs ys : List A) → Reordered xs ys → Reordered (filter p xs) (filter p ys)
  kept p xs ys empty = empty
  kept p xs ys (behind a h) = by (p a) (kept p _ _ h)
    where
      by : {vs ws : List A} (b : Bool) → Reordered vs ws → Reordered (cond b (a ∷ vs) vs) (cond b (a ∷ ws) ws)
      by true k = behind a k
      by false k = k
  kept p xs ys (swapped a b more) = by (p a) (p b)
    where
      by : (c d : Bool) → Reordered (cond c (a ∷ cond d (b ∷ filter p more) (filter p more)) (cond d (b ∷ filter p more) (filter p more))) (cond d (b ∷ cond c (a ∷ filter p more) (filter p more)) (cond c (a ∷ filter p more) (filter p more)))
      by true true = swapped a b (filter p more)
      by true false = itself (a ∷ filter p more)
      by false true = itself (b ∷ filter p more)
      by false false = itself (filter p more)
  kept p xs ys (again h k) = again (kept p _ _ h) (kept p _ _ k)

  -- nothing is nothing in any order
  pub none : (xs ys : List A) → Reordered xs ys → xs ≡ [] → ys ≡ []
  none xs ys h e = by ys (sym (as_long xs ys h) ∙ ap length e)
    where
      by : (ws : List A) → length ws ≡ 0 → ws ≡ []
      by [] f = refl
      by (w ∷ ws) f = absurd cc

module _ {A B : Type 0} where
  pub mapped : (f : A → B) (xs ys : List A) → Reordered xs ys → Reordered (map f xs) (map f ys)
  mapped f xs ys empty = empty
  mapped f xs ys (behind a h) = behind (f a) (mapped f _ _ h)
  mapped f xs ys (swapped a b more) = swapped (f a) (f b) (map f more)
  mapped f xs ys (again h k) = again (mapped f _ _ h) (mapped f _ _ k)

  pub flattened : (f : A → List B) (xs ys : List A) → Reordered xs ys → Reordered (flat_map f xs) (flat_map f ys)
  flattened f xs ys empty = empty
  flattened f xs ys (behind a h) = before (f a) (flat_map f _) (flat_map f _) (flattened f _ _ h)
  flattened f xs ys (swapped a b more) = exchanged (f a) (f b) (flat_map f more)
  flattened f xs ys (again h k) = again (flattened f _ _ h) (flattened f _ _ k)

  -- what comes of each element may stand in another order
  pub of_each : (f g : A → List B) → ((a : A) → Reordered (f a) (g a)) → (xs : List A) → Reordered (flat_map f xs) (flat_map g xs)
  of_each f g h [] = empty
  of_each f g h (x ∷ xs) = joined (f x) (g x) (flat_map f xs) (flat_map g xs) (h x) (of_each f g h xs)
