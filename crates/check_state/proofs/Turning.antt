-- A list turned by one, with another first.
use Rattle.std.proofs.Common.{◌≡◌, ◌-◌, ℕ, zero, suc, List, [], ◌∷◌, ◌++◌, length, take, drop, slice_set, refl, ap, ◌∙◌, arith}
use Rattle.std.specs.List.{slice_rotate_right}

last_alone : {A : Type 0} (n : ℕ) (xs : List A) → length xs ≡ suc n → (y : A) × (drop n xs ≡ y ∷ [])
last_alone n [] h = absurd (omega (arith, h))
last_alone zero (x ∷ []) h = (x, refl)
last_alone zero (x ∷ y ∷ xs) h = absurd (omega (arith, h))
last_alone (suc n) (x ∷ xs) h = last_alone n xs (omega (arith, h))

pub turned : {A : Type 0} (n : ℕ) (xs : List A) (y : A) → length xs ≡ suc n → slice_set (slice_rotate_right xs 1) 0 y ≡ y ∷ take n xs
turned n xs y h =
    let (z, is) = last_alone n xs h in
    let e : length xs - 1 ≡ n = omega (arith, h) in
    ap (λ k. slice_set (drop k xs ++ take k xs) 0 y) e ∙ ap (λ zs. slice_set (zs ++ take n xs) 0 y) is
