-- Signs of numbers.
use Rattle.std.proofs.Common.{◌≡◌, ◌≢◌, ℕ, Bool, true, false, cond, eqb, List, [], ◌∷◌, refl, ap, arith}
use Rattle.std.proofs.lemmas.Bool.Decides.{nat_tests}
use Rattle.dsl_lib.specs.Scalars.{signed_read, unsigned_read, negated}

pub without_sign : (t : List ℕ) → ((rest : List ℕ) → t ≢ 45 ∷ rest) → signed_read t ≡ unsigned_read t
without_sign [] h = refl
without_sign (b ∷ bs) h = by (eqb b 45) refl
  where
    by : (test : Bool) → eqb b 45 ≡ test → cond test (negated (unsigned_read bs)) (unsigned_read (b ∷ bs)) ≡ unsigned_read (b ∷ bs)
    by true e = let same : b ≡ 45 = grind (arith, nat_tests) in absurd (h bs (ap (λ x. x ∷ bs) same))
    by false e = refl
