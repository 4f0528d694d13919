-- The orders of no, one and two things.
use Rattle.std.proofs.Common.{◌≡◌, ◌<◌, ℕ, zero, suc, List, [], ◌∷◌, length, swap, IsPermutation, inl, inr, ◌⊎◌, refl, sym, ap, ◌∙◌, subst, arith}
use Rattle.std.proofs.lemmas.List.Sorted.{IsPermutation-keeps}

module _ {A : Type 0} where
  pub none : (ys : List A) → IsPermutation [] ys → ys ≡ []
  none = IsPermutation-keeps [] (λ ys. ys ≡ []) refl (λ l i j p q e. absurd (let n = ap length e in omega (arith, n)))

  swapped_one : (x : A) (i j : ℕ) → i < 1 → j < 1 → swap (x ∷ []) i j ≡ x ∷ []
  swapped_one x zero zero p q = refl
  swapped_one x zero (suc j) p q = absurd (omega arith)
  swapped_one x (suc i) j p q = absurd (omega arith)

  pub one : (x : A) (ys : List A) → IsPermutation (x ∷ []) ys → ys ≡ x ∷ []
  one x = IsPermutation-keeps (x ∷ []) (λ ys. ys ≡ x ∷ []) refl (λ l i j p q e.
      let n = ap length e in
      ap (λ z. swap z i j) e ∙ swapped_one x i j (omega (arith, n)) (omega (arith, n)))

  abbrev pub Either : A → A → List A → Type 0
  Either x y ys = (ys ≡ x ∷ y ∷ []) ⊎ (ys ≡ y ∷ x ∷ [])

  swapped_two : (x y : A) (i j : ℕ) → i < 2 → j < 2 → Either x y (swap (x ∷ y ∷ []) i j)
  swapped_two x y zero zero p q = inl refl
  swapped_two x y zero (suc zero) p q = inr refl
  swapped_two x y (suc zero) zero p q = inr refl
  swapped_two x y (suc zero) (suc zero) p q = inl refl
  swapped_two x y zero (suc (suc j)) p q = absurd (omega arith)
  swapped_two x y (suc zero) (suc (suc j)) p q = absurd (omega arith)
  swapped_two x y (suc (suc i)) j p q = absurd (omega arith)

  turned : (x y : A) (ys : List A) → Either x y ys → Either y x ys
  turned x y ys (inl e) = inr e
  turned x y ys (inr e) = inl e

  pub two : (x y : A) (ys : List A) → IsPermutation (x ∷ y ∷ []) ys → Either x y ys
  two x y = IsPermutation-keeps (x ∷ y ∷ []) (Either x y) (inl refl) step
    where
      step : (l : List A) (i j : ℕ) → i < length l → j < length l → Either x y l → Either x y (swap l i j)
      step l i j p q (inl e) =
          let n = ap length e in
          subst (λ z. Either x y (swap z i j)) (sym e) (swapped_two x y i j (omega (arith, n)) (omega (arith, n)))
      step l i j p q (inr e) =
          let n = ap length e in
          subst (λ z. Either x y (swap z i j)) (sym e) (turned y x _ (swapped_two y x i j (omega (arith, n)) (omega (arith, n))))
