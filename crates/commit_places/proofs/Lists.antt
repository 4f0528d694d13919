-- Lists of which each element is moved.
use Rattle.std.proofs.Common.{◌≡◌, List, [], ◌∷◌, ◌++◌, map, filter, Bool, true, false, cond, refl, sym, ap, ◌∙◌}
use Rattle.std.specs.List.{flat_map}
use Rattle.std.proofs.lemmas.List.{map-append}
use Rattle.site_base.specs.declared.item_no.ItemNo.{ItemNo}
use Rattle.commit_meaning.specs.Orders.{is_behind, inserted, by_number}

pub joined : {A : Type 0} (f : A → A) (x y z w : List A) → x ≡ map f z → y ≡ map f w → x ++ y ≡ map f (z ++ w)
joined f x y z w h k = ap (λ a. a ++ y) h ∙ ap (λ b. map f z ++ b) k ∙ sym (map-append f z w)

pub filter_moved : {A : Type 0} (f : A → A) (p q : A → Bool) → ((a : A) → p (f a) ≡ q a) → (xs : List A) → filter p (map f xs) ≡ map f (filter q xs)
filter_moved f p q h [] = refl
filter_moved f p q h (x ∷ xs) = ap (λ b. cond b (f x ∷ filter p (map f xs)) (filter p (map f xs))) (h x) ∙ by (q x) (filter_moved f p q h xs)
  where
    by : (b : Bool) → filter p (map f xs) ≡ map f (filter q xs) → cond b (f x ∷ filter p (map f xs)) (filter p (map f xs)) ≡ map f (cond b (x ∷ filter q xs) (filter q xs))
    by true e = ap (λ ys. f x ∷ ys) e
    by false e = e

pub flat_moved : {A B : Type 0} (f : A → A) (g : B → B) (h k : A → List B) → ((a : A) → h (f a) ≡ map g (k a)) → (xs : List A) → flat_map h (map f xs) ≡ map g (flat_map k xs)
flat_moved f g h k e [] = refl
flat_moved f g h k e (x ∷ xs) = joined g (h (f x)) (flat_map h (map f xs)) (k x) (flat_map k xs) (e x) (flat_moved f g h k e xs)

pub map_moved : {A B : Type 0} (f : A → A) (g : B → B) (h k : A → B) → ((a : A) → h (f a) ≡ g (k a)) → (xs : List A) → map h (map f xs) ≡ map g (map k xs)
map_moved f g h k e [] = refl
map_moved f g h k e (x ∷ xs) = ap (λ b. b ∷ map h (map f xs)) (e x) ∙ ap (λ bs. g (k x) ∷ bs) (map_moved f g h k e xs)

-- ---- in the order of numbers, which stay

module _ {A : Type 0} (f : A → A) (n : A → ItemNo) (same : (a : A) → n (f a) ≡ n a) where
  inserted_moved : (a : A) (bs : List A) → inserted n (f a) (map f bs) ≡ map f (inserted n a bs)
  inserted_moved a [] = refl
  inserted_moved a (b ∷ bs) =
      ap (λ k. cond (is_behind k (n (f b))) (f b ∷ inserted n (f a) (map f bs)) (f a ∷ f b ∷ map f bs)) (same a)
      ∙ ap (λ k. cond (is_behind (n a) k) (f b ∷ inserted n (f a) (map f bs)) (f a ∷ f b ∷ map f bs)) (same b)
      ∙ by (is_behind (n a) (n b)) (inserted_moved a bs)
    where
      by : (c : Bool) → inserted n (f a) (map f bs) ≡ map f (inserted n a bs) → cond c (f b ∷ inserted n (f a) (map f bs)) (f a ∷ f b ∷ map f bs) ≡ map f (cond c (b ∷ inserted n a bs) (a ∷ b ∷ bs))
      by true e = ap (λ ys. f b ∷ ys) e
      by false e = refl

  pub by_number_moved : (xs : List A) → by_number n (map f xs) ≡ map f (by_number n xs)
  by_number_moved [] = refl
  by_number_moved (x ∷ xs) = ap (inserted n (f x)) (by_number_moved xs) ∙ inserted_moved x (by_number n xs)
