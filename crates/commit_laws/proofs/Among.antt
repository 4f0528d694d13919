-- What stands in lists that are made of others.
use Rattle.std.proofs.Common.{◌≡◌, ◌∙◌, zero, List, [], ◌∷◌, ◌++◌, map, filter, cond, Bool, true, false, refl, sym, arith, true≢false}
use Rattle.std.specs.Prelude.{Contains}
use Rattle.std.specs.List.{flat_map, AllByRecursion}
use Rattle.std.proofs.lemmas.List.Elements.{All-contains, All-from_recursion, Contains-append_left, Contains-append_right}
use Rattle.site_base.specs.declared.item_no.ItemNo.{ItemNo}
use Rattle.commit_meaning.specs.Orders.{is_behind, inserted, by_number}
use Rattle.commit_meaning.proofs.Lists.{all_imp}

module _ {A : Type 0} where
  -- what is true of each element is true of one
  pub of_one : (P : A → Type 0) (xs : List A) (x : A) → AllByRecursion P xs → Contains xs x → P x
  of_one P xs x h c = All-contains P xs x (All-from_recursion P xs h) c

  pub first_in : (x : A) (xs : List A) → Contains (x ∷ xs) x
  first_in x xs = (zero, omega arith, refl)

  pub later_in : (x : A) (xs : List A) (y : A) → Contains xs y → Contains (x ∷ xs) y
  later_in x xs y c = Contains-append_right (x ∷ []) xs y c

  pub each_in : (xs : List A) → AllByRecursion (Contains xs) xs
  each_in [] = tt
  each_in (x ∷ xs) = (first_in x xs, all_imp (Contains xs) (Contains (x ∷ xs)) (later_in x xs) xs (each_in xs))

  pub none_in : {P : Type 0} (x : A) → Contains [] x → P
  none_in x c = let lt = c.1 in absurd (omega (arith, lt))

  -- a list that has all of another one
  pub all_left : (xs ys zs : List A) → AllByRecursion (Contains xs) zs → AllByRecursion (Contains (xs ++ ys)) zs
  all_left xs ys zs h = all_imp (Contains xs) (Contains (xs ++ ys)) (Contains-append_left xs ys) zs h

  pub all_right : (xs ys zs : List A) → AllByRecursion (Contains ys) zs → AllByRecursion (Contains (xs ++ ys)) zs
  all_right xs ys zs h = all_imp (Contains ys) (Contains (xs ++ ys)) (Contains-append_right xs ys) zs h

  pub filtered_in : (p : A → Bool) (xs : List A) → AllByRecursion (λ x. p x ≡ true → Contains (filter p xs) x) xs
  filtered_in p [] = tt
  filtered_in p (x ∷ xs) = by (filtered_in p xs) (p x) refl
    where
      by : AllByRecursion (λ y. p y ≡ true → Contains (filter p xs) y) xs → (b : Bool) → p x ≡ b
          → (p x ≡ true → Contains (cond b (x ∷ filter p xs) (filter p xs)) x) × AllByRecursion (λ y. p y ≡ true → Contains (cond b (x ∷ filter p xs) (filter p xs)) y) xs
      by rest true e = (λ q. first_in x (filter p xs), all_imp (λ y. p y ≡ true → Contains (filter p xs) y) (λ y. p y ≡ true → Contains (x ∷ filter p xs) y) (λ y h q. later_in x (filter p xs) y (h q)) xs rest)
      by rest false e = (λ q. absurd (true≢false (sym q ∙ e)), rest)

module _ {A : Type 0} (n : A → ItemNo) where
  inserted_in : (a : A) (xs : List A) → Contains (inserted n a xs) a × AllByRecursion (Contains (inserted n a xs)) xs
  inserted_in a [] = (first_in a [], tt)
  inserted_in a (b ∷ bs) = by (inserted_in a bs) (is_behind (n a) (n b))
    where
      by : Contains (inserted n a bs) a × AllByRecursion (Contains (inserted n a bs)) bs → (c : Bool)
          → Contains (cond c (b ∷ inserted n a bs) (a ∷ b ∷ bs)) a × AllByRecursion (Contains (cond c (b ∷ inserted n a bs) (a ∷ b ∷ bs))) (b ∷ bs)
      by rest true = (later_in b (inserted n a bs) a rest.0, (first_in b (inserted n a bs), all_imp (Contains (inserted n a bs)) (Contains (b ∷ inserted n a bs)) (later_in b (inserted n a bs)) bs rest.1))
      by rest false = (first_in a (b ∷ bs), all_imp (Contains (b ∷ bs)) (Contains (a ∷ b ∷ bs)) (later_in a (b ∷ bs)) (b ∷ bs) (each_in (b ∷ bs)))

  sorted_all : (xs : List A) → AllByRecursion (Contains (by_number n xs)) xs
  sorted_all [] = tt
  sorted_all (x ∷ xs) =
      let both = inserted_in x (by_number n xs) in
      (both.0, all_imp (Contains (by_number n xs)) (Contains (inserted n x (by_number n xs))) (λ y c. of_one (Contains (inserted n x (by_number n xs))) (by_number n xs) y both.1 c) xs (sorted_all xs))

  -- what is sorted by numbers has all that it had
  pub sorted_in : (xs : List A) (x : A) → Contains xs x → Contains (by_number n xs) x
  sorted_in xs x c = of_one (Contains (by_number n xs)) xs x (sorted_all xs) c

module _ {A B : Type 0} where
  mapped_all : (f : A → B) (xs : List A) → AllByRecursion (λ x. Contains (map f xs) (f x)) xs
  mapped_all f [] = tt
  mapped_all f (x ∷ xs) = (first_in (f x) (map f xs), all_imp (λ y. Contains (map f xs) (f y)) (λ y. Contains (f x ∷ map f xs) (f y)) (λ y c. later_in (f x) (map f xs) (f y) c) xs (mapped_all f xs))

  pub mapped_in : (f : A → B) (xs : List A) (x : A) → Contains xs x → Contains (map f xs) (f x)
  mapped_in f xs x c = of_one (λ y. Contains (map f xs) (f y)) xs x (mapped_all f xs) c

  flat_all : (f : A → List B) (xs : List A) → AllByRecursion (λ x. AllByRecursion (Contains (flat_map f xs)) (f x)) xs
  flat_all f [] = tt
  flat_all f (x ∷ xs) = (
    all_left (f x) (flat_map f xs) (f x) (each_in (f x)),
    all_imp (λ y. AllByRecursion (Contains (flat_map f xs)) (f y)) (λ y. AllByRecursion (Contains (f x ++ flat_map f xs)) (f y)) (λ y h. all_right (f x) (flat_map f xs) (f y) h) xs (flat_all f xs),
  )

  -- what is made of an element stands in what is made of all
  pub flat_in : (f : A → List B) (xs : List A) (x : A) → Contains xs x → AllByRecursion (Contains (flat_map f xs)) (f x)
  flat_in f xs x c = of_one (λ y. AllByRecursion (Contains (flat_map f xs)) (f y)) xs x (flat_all f xs) c
