-- Lists of which each element is something, or each two of which are something in their order.
use Rattle.std.proofs.Common.{◌≡◌, ◌<◌, ℕ, zero, suc, List, [], ◌∷◌, ◌++◌, length, map, filter, cond, Bool, true, false, refl, arith, AllPairs, slice_index_or}
use Rattle.std.specs.List.{flat_map, AllByRecursion}
use Rattle.std.proofs.lemmas.List.Kept.{AllPairs-cons}

-- each two elements, the earlier one first
abbrev pub AllLater : {A : Type 0} → (A → A → Type 0) → List A → Type 0
AllLater R [] = Unit {0}
AllLater R (a ∷ more) = AllByRecursion (R a) more × AllLater R more

module _ {A : Type 0} where
  pub all_of_each : (P : A → Type 0) → ((a : A) → P a) → (xs : List A) → AllByRecursion P xs
  all_of_each P f [] = tt
  all_of_each P f (x ∷ xs) = (f x, all_of_each P f xs)

  pub all_imp : (P Q : A → Type 0) → ((a : A) → P a → Q a) → (xs : List A) → AllByRecursion P xs → AllByRecursion Q xs
  all_imp P Q f [] h = tt
  all_imp P Q f (x ∷ xs) h = (f x h.0, all_imp P Q f xs h.1)

  pub all_both : (P Q W : A → Type 0) → ((a : A) → P a → Q a → W a) → (xs : List A) → AllByRecursion P xs → AllByRecursion Q xs → AllByRecursion W xs
  all_both P Q W f [] h k = tt
  all_both P Q W f (x ∷ xs) h k = (f x h.0 k.0, all_both P Q W f xs h.1 k.1)

  pub all_append : (P : A → Type 0) (xs ys : List A) → AllByRecursion P xs → AllByRecursion P ys → AllByRecursion P (xs ++ ys)
  all_append P [] ys h k = k
  all_append P (x ∷ xs) ys h k = (h.0, all_append P xs ys h.1 k)

  pub all_filter : (p : A → Bool) (xs : List A) → AllByRecursion (λ a. p a ≡ true) (filter p xs)
  all_filter p [] = tt
  all_filter p (x ∷ xs) = by (all_filter p xs) (p x) refl
    where
      by : AllByRecursion (λ a. p a ≡ true) (filter p xs) → (b : Bool) → p x ≡ b → AllByRecursion (λ a. p a ≡ true) (cond b (x ∷ filter p xs) (filter p xs))
      by rest true e = (e, rest)
      by rest false e = rest

  pub all_kept : (P : A → Type 0) (p : A → Bool) (xs : List A) → AllByRecursion P xs → AllByRecursion P (filter p xs)
  all_kept P p [] h = tt
  all_kept P p (x ∷ xs) h = by (all_kept P p xs h.1) (p x)
    where
      by : AllByRecursion P (filter p xs) → (b : Bool) → AllByRecursion P (cond b (x ∷ filter p xs) (filter p xs))
      by rest true = (h.0, rest)
      by rest false = rest

  pub later_append : (R : A → A → Type 0) (xs ys : List A) → AllLater R xs → AllLater R ys → AllByRecursion (λ x. AllByRecursion (R x) ys) xs → AllLater R (xs ++ ys)
  later_append R [] ys h k c = k
  later_append R (x ∷ xs) ys h k c = (all_append (R x) xs ys h.0 c.0, later_append R xs ys h.1 k c.1)

  all_from : (P : A → Type 0) (xs : List A) → AllByRecursion P xs → (k : ℕ) (d : A) → k < length xs → P (slice_index_or xs k d)
  all_from P [] h k d within = absurd (omega arith)
  all_from P (x ∷ xs) h zero d within = h.0
  all_from P (x ∷ xs) h (suc k) d within = all_from P xs h.1 k d (omega arith)

  pub pairs_from_later : (R : A → A → Type 0) (xs : List A) → AllLater R xs → AllPairs R xs
  pairs_from_later R [] h = λ i j d lt within. absurd (omega arith)
  pairs_from_later R (x ∷ xs) h = AllPairs-cons R x xs (all_from (R x) xs h.0) (pairs_from_later R xs h.1)

module _ {A B : Type 0} where
  pub all_map : (f : A → B) (P : A → Type 0) (Q : B → Type 0) → ((a : A) → P a → Q (f a)) → (xs : List A) → AllByRecursion P xs → AllByRecursion Q (map f xs)
  all_map f P Q g [] h = tt
  all_map f P Q g (x ∷ xs) h = (g x h.0, all_map f P Q g xs h.1)

  pub all_flat : (f : A → List B) (P : A → Type 0) (Q : B → Type 0) → ((a : A) → P a → AllByRecursion Q (f a)) → (xs : List A) → AllByRecursion P xs → AllByRecursion Q (flat_map f xs)
  all_flat f P Q g [] h = tt
  all_flat f P Q g (x ∷ xs) h = all_append Q (f x) (flat_map f xs) (g x h.0) (all_flat f P Q g xs h.1)

  pub later_map : (f : A → B) (R : A → A → Type 0) (S : B → B → Type 0) → ((a b : A) → R a b → S (f a) (f b)) → (xs : List A) → AllLater R xs → AllLater S (map f xs)
  later_map f R S g [] h = tt
  later_map f R S g (x ∷ xs) h = (all_map f (R x) (S (f x)) (g x) xs h.0, later_map f R S g xs h.1)

  across : (f : A → List B) (S : B → B → Type 0) (ys : List B) (xs : List A) → AllByRecursion (λ b. AllByRecursion (λ y. AllByRecursion (S y) (f b)) ys) xs → AllByRecursion (λ y. AllByRecursion (S y) (flat_map f xs)) ys
  across f S ys [] h = all_of_each (λ y. AllByRecursion (S y) []) (λ y. tt) ys
  across f S ys (x ∷ xs) h =
      all_both (λ y. AllByRecursion (S y) (f x)) (λ y. AllByRecursion (S y) (flat_map f xs)) (λ y. AllByRecursion (S y) (f x ++ flat_map f xs)) (λ y p q. all_append (S y) (f x) (flat_map f xs) p q) ys h.0 (across f S ys xs h.1)

  -- each element becomes some that stand to each other as the elements did
  pub later_flat : (f : A → List B) (R : A → A → Type 0) (S : B → B → Type 0) → ((a : A) → AllLater S (f a)) → ((a b : A) → R a b → AllByRecursion (λ y. AllByRecursion (S y) (f b)) (f a)) → (xs : List A) → AllLater R xs → AllLater S (flat_map f xs)
  later_flat f R S one two [] h = tt
  later_flat f R S one two (x ∷ xs) h =
      later_append S (f x) (flat_map f xs) (one x) (later_flat f R S one two xs h.1) (across f S (f x) xs (all_imp (R x) (λ b. AllByRecursion (λ y. AllByRecursion (S y) (f b)) (f x)) (two x) xs h.0))
