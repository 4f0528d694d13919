-- Shifts of whole numbers.
use Rattle.std.proofs.Common.{◌≡◌, ℕ, ◌*◌, ◌<◌, ◌%◌, ◌^◌, ℤ, pos, ◌*ℤ◌, to_z, of_z, sym, ap, subst, ◌∙◌, arith}
use Rattle.std.specs.Int.{w64}
use Rattle.std.specs.Prelude.{FitsSigned}
use Rattle.std.proofs.lemmas.Int.{to_z_pos, to_z-of_z}
use Rattle.std.proofs.lemmas.Nat.{one_shl}
use Rattle.std.proofs.Math.Pow.{pow-lt}

-- a power of 2 as the code makes it
abbrev power : ℕ → ℤ
power n = to_z w64 (1 * 2 ^ n % 18446744073709551616)

one_place : (n : ℕ) → n < 63 → power n ≡ pos (2 ^ n)
one_place n few = ap (to_z w64) (one_shl n 64 (omega arith)) ∙ to_z_pos w64 (2 ^ n) (pow-lt few)

-- what the code multiplies by
pub times_power : (x z : ℤ) (n : ℕ) → FitsSigned w64 x → n < 63 → FitsSigned w64 (to_z w64 (of_z w64 x) *ℤ to_z w64 (1 * 2 ^ n % 18446744073709551616)) → z ≡ to_z w64 (of_z w64 x) *ℤ to_z w64 (1 * 2 ^ n % 18446744073709551616)
    → to_z w64 (of_z w64 z) ≡ x *ℤ pos (2 ^ n)
times_power x z n fits few inside is =
    to_z-of_z w64 z (subst (FitsSigned w64) (sym is) inside) ∙ is ∙ ap (λ y. y *ℤ power n) (to_z-of_z w64 x fits) ∙ ap (λ y. x *ℤ y) (one_place n few)
