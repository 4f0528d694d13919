-- What comes of a list without numbers is what comes of the list, without numbers.
use Rattle.std.proofs.Common.{◌≡◌, List, [], ◌∷◌, ◌++◌, map, filter, Bool, true, false, cond, refl, sym, ap, ◌∙◌}
use Rattle.std.specs.List.{flat_map}
use Rattle.std.proofs.lemmas.List.{map-append}

module _ {A B C D : Type 0} (f : A → B) (g : C → D) where
  pub flat_mapped : (h : B → List D) (k : A → List C) → ((a : A) → h (f a) ≡ map g (k a)) → (xs : List A) → flat_map h (map f xs) ≡ map g (flat_map k xs)
  flat_mapped h k e [] = refl
  flat_mapped h k e (x ∷ xs) = ap (λ ys. ys ++ flat_map h (map f xs)) (e x) ∙ ap (λ ys. map g (k x) ++ ys) (flat_mapped h k e xs) ∙ sym (map-append g (k x) (flat_map k xs))

  pub map_mapped : (h : B → D) (k : A → C) → ((a : A) → h (f a) ≡ g (k a)) → (xs : List A) → map h (map f xs) ≡ map g (map k xs)
  map_mapped h k e [] = refl
  map_mapped h k e (x ∷ xs) = ap (λ b. b ∷ map h (map f xs)) (e x) ∙ ap (λ bs. g (k x) ∷ bs) (map_mapped h k e xs)

module _ {A B : Type 0} (f : A → B) where
  -- what comes of each element without its number is what comes of it
  pub flat_of : {C : Type 0} (h : B → List C) (k : A → List C) → ((a : A) → h (f a) ≡ k a) → (xs : List A) → flat_map h (map f xs) ≡ flat_map k xs
  flat_of h k e [] = refl
  flat_of h k e (x ∷ xs) = ap (λ ys. ys ++ flat_map h (map f xs)) (e x) ∙ ap (λ ys. k x ++ ys) (flat_of h k e xs)

  pub filter_mapped : (p : B → Bool) (q : A → Bool) → ((a : A) → p (f a) ≡ q a) → (xs : List A) → filter p (map f xs) ≡ map f (filter q xs)
  filter_mapped p q h [] = refl
  filter_mapped p q h (x ∷ xs) = ap (λ b. cond b (f x ∷ filter p (map f xs)) (filter p (map f xs))) (h x) ∙ by (q x) (filter_mapped p q h xs)
    where
      by : (b : Bool) → filter p (map f xs) ≡ map f (filter q xs) → cond b (f x ∷ filter p (map f xs)) (filter p (map f xs)) ≡ map f (cond b (x ∷ filter q xs) (filter q xs))
      by true e = ap (λ ys. f x ∷ ys) e
      by false e = e
