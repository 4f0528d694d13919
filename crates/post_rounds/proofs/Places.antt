-- Lists read by place.
use Rattle.std.proofs.Common.{rules, ◌≡◌, ℕ, zero, suc, ◌+◌, ◌-◌, ◌<◌, List, [], ◌∷◌, ◌++◌, length, map, take, drop, get_or, slice_get, reverse, Some, refl, sym, ap, ◌∙◌, subst, arith, append-nil, length-append}
use Rattle.std.specs.Prelude.{All}
use Rattle.std.specs.List.{AllZip}
use Rattle.std.proofs.lemmas.List.{get_or-reverse, take_more}
use Rattle.std.proofs.lemmas.Option.{same_Some, slice_get_within, slice_get-get_or, get_or_from_slice_get}

pub get_within : {A : Type 0} (xs : List A) (n : ℕ) → n < length xs → (x : A) × (slice_get xs n ≡ Some x)
get_within [] n h = absurd (omega arith)
get_within (x ∷ xs) zero h = (x, refl)
get_within (x ∷ xs) (suc n) h = get_within xs n (omega arith)

module _ {A : Type 0} (P : A → Type 0) where
  pub all_from : (xs : List A) → ((i : ℕ) (x : A) → slice_get xs i ≡ Some x → P x) → All P xs
  all_from xs h = λ i d l. h i (get_or xs i d) (slice_get-get_or xs i d l)

  pub all_at : (xs : List A) → All P xs → (i : ℕ) (x : A) → slice_get xs i ≡ Some x → P x
  all_at xs h i x e = subst P (get_or_from_slice_get xs i x x e) (h i x (slice_get_within xs i x e))

module _ {A B : Type 0} where
  -- what holds of two lists place by place, and of one element more behind each
  pub both_snoc : (P : ℕ → A → B → Type 0) (xs : List A) (ys : List B) (x : A) (y : B) → length ys ≡ length xs → ((i : ℕ) (a : A) (b : B) → slice_get xs i ≡ Some a → slice_get ys i ≡ Some b → P i a b) → P (length xs) x y
      → (i : ℕ) (a : A) (b : B) → slice_get (xs ++ x ∷ []) i ≡ Some a → slice_get (ys ++ y ∷ []) i ≡ Some b → P i a b
  both_snoc P [] [] x y l h p zero a b ea eb = subst (P 0 a) (same_Some y b eb) (subst (λ z. P 0 z y) (same_Some x a ea) p)
  both_snoc P [] [] x y l h p (suc i) a b ea eb = absurd cc
  both_snoc P [] (z ∷ ys) x y l h p i a b ea eb = absurd (omega (arith, l))
  both_snoc P (w ∷ xs) [] x y l h p i a b ea eb = absurd (omega (arith, l))
  both_snoc P (w ∷ xs) (z ∷ ys) x y l h p zero a b ea eb = h zero a b ea eb
  both_snoc P (w ∷ xs) (z ∷ ys) x y l h p (suc i) a b ea eb = both_snoc (λ j. P (suc j)) xs ys x y (omega (arith, l)) (λ j. h (suc j)) p i a b ea eb

  pub zip_push : (R : A → B → Type 0) (xs : List A) (ys : List B) (x : A) (y : B) → AllZip R xs ys → R x y → AllZip R (xs ++ x ∷ []) (ys ++ y ∷ [])
  zip_push R [] [] x y h r = (r, h)
  zip_push R [] (z ∷ ys) x y h r = absurd h
  zip_push R (w ∷ xs) [] x y h r = absurd h
  zip_push R (w ∷ xs) (z ∷ ys) x y h r = (h.0, zip_push R xs ys x y h.1 r)

  pub zip_from : (R : A → B → Type 0) (xs : List A) (ys : List B) → length ys ≡ length xs → ((i : ℕ) (a : A) (b : B) → slice_get xs i ≡ Some a → slice_get ys i ≡ Some b → R a b) → AllZip R xs ys
  zip_from R [] [] l h = search rules
  zip_from R [] (y ∷ ys) l h = absurd (omega (arith, l))
  zip_from R (x ∷ xs) [] l h = absurd (omega (arith, l))
  zip_from R (x ∷ xs) (y ∷ ys) l h = (h 0 x y refl refl, zip_from R xs ys (omega (arith, l)) (λ i. h (suc i)))

  pub zip_at : (R : A → B → Type 0) (xs : List A) (ys : List B) → AllZip R xs ys → (i : ℕ) (a : A) (b : B) → slice_get xs i ≡ Some a → slice_get ys i ≡ Some b → R a b
  zip_at R [] ys h i a b ea eb = absurd cc
  zip_at R (x ∷ xs) [] h i a b ea eb = absurd cc
  zip_at R (x ∷ xs) (y ∷ ys) h zero a b ea eb = subst (R a) (same_Some y b eb) (subst (λ z. R z y) (same_Some x a ea) h.0)
  zip_at R (x ∷ xs) (y ∷ ys) h (suc i) a b ea eb = zip_at R xs ys h.1 i a b ea eb

  pub zip_length : (R : A → B → Type 0) (xs : List A) (ys : List B) → AllZip R xs ys → length ys ≡ length xs
  zip_length R [] [] h = refl
  zip_length R [] (y ∷ ys) h = absurd h
  zip_length R (x ∷ xs) [] h = absurd h
  zip_length R (x ∷ xs) (y ∷ ys) h = ap suc (zip_length R xs ys h.1)

module _ {A : Type 0} where
  head_of : (x y : A) (xs ys : List A) → x ∷ xs ≡ y ∷ ys → x ≡ y
  head_of x y xs ys e = same_Some x y (ap (λ l. slice_get l 0) e)

  tail_of : (x y : A) (xs ys : List A) → x ∷ xs ≡ y ∷ ys → xs ≡ ys
  tail_of x y xs ys e = ap (drop 1) e

  snoc_same : (xs ys : List A) (x y : A) → xs ++ x ∷ [] ≡ ys ++ y ∷ [] → (xs ≡ ys) × (x ≡ y)
  snoc_same [] [] x y e = (refl, head_of x y [] [] e)
  snoc_same [] (z ∷ zs) x y e = let n = ap length e in let l = length-append zs (y ∷ []) in absurd (omega (arith, n, l))
  snoc_same (w ∷ ws) [] x y e = let n = ap length e in let l = length-append ws (x ∷ []) in absurd (omega (arith, n, l))
  snoc_same (w ∷ ws) (z ∷ zs) x y e =
      let r = snoc_same ws zs x y (tail_of w z (ws ++ x ∷ []) (zs ++ y ∷ []) e) in
      let h = head_of w z (ws ++ x ∷ []) (zs ++ y ∷ []) e in
      ((λ i. h i ∷ r.0 i), r.1)

  -- the last of a beginning of a list is the element behind the beginning before it
  pub take_snoc : (m : ℕ) (xs ys : List A) (b : A) → m < length xs → take (m + 1) xs ≡ ys ++ b ∷ [] → (ys ≡ take m xs) × (slice_get xs m ≡ Some b)
  take_snoc m xs ys b h e =
      let r = snoc_same ys (take m xs) b (get_or xs m b) (sym e ∙ take_more xs m b h) in
      (r.0, slice_get-get_or xs m b h ∙ ap Some (sym r.1))

  pub get_reverse : (xs : List A) (p : ℕ) (x : A) → p < length xs → slice_get (reverse xs) p ≡ Some x → slice_get xs (length xs - 1 - p) ≡ Some x
  get_reverse xs p x h e =
      slice_get-get_or xs (length xs - 1 - p) x (omega arith) ∙ ap Some (sym (get_or-reverse xs p x h) ∙ get_or_from_slice_get (reverse xs) p x x e)

pub get_map : {A B : Type 0} (f : A → B) (xs : List A) (n : ℕ) (y : B) → slice_get (map f xs) n ≡ Some y → (x : A) × (slice_get xs n ≡ Some x) × (f x ≡ y)
get_map f [] n y e = absurd cc
get_map f (x ∷ xs) zero y e = (x, refl, same_Some (f x) y e)
get_map f (x ∷ xs) (suc n) y e = get_map f xs n y e

pub get_seam : {A : Type 0} (xs ys : List A) (y : A) → slice_get (xs ++ y ∷ ys) (length xs) ≡ Some y
get_seam [] ys y = refl
get_seam (x ∷ xs) ys y = get_seam xs ys y

-- where nothing is left, all was yielded
pub none_left : {A : Type 0} (xs ys zs : List A) → xs ++ ys ≡ zs → length ys ≡ 0 → xs ≡ zs
none_left xs [] zs e none = sym (append-nil xs) ∙ e
none_left xs (y ∷ ys) zs e none = absurd (omega (arith, none))
