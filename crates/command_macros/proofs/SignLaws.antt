-- A text that begins with no sign.
use Rattle.std.proofs.Common.{◌≡◌, ◌≢◌, ℕ, Bool, true, false, cond, eqb, List, [], ◌∷◌, refl, ap, arith}
use Rattle.std.proofs.lemmas.Bool.Decides.{nat_tests}
use Rattle.command_macros.specs.Truth.{amount_read, is_other_than_zero, is_signed_amount}

pub without_sign : (t : List ℕ) → ((rest : List ℕ) → t ≢ 45 ∷ rest) → is_signed_amount t ≡ is_other_than_zero (amount_read t)
without_sign [] h = refl
without_sign (b ∷ bs) h = by (eqb b 45) refl
  where
    same : eqb b 45 ≡ true → b ≡ 45
    same e = grind (arith, nat_tests)

    by : (test : Bool) → eqb b 45 ≡ test → cond test (is_other_than_zero (amount_read bs)) (is_other_than_zero (amount_read (b ∷ bs))) ≡ is_other_than_zero (amount_read (b ∷ bs))
    by true e = absurd (h bs (ap (λ x. x ∷ bs) (same e)))
    by false e = refl
