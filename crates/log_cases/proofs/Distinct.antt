-- Names of one or two things that differ in their lengths are distinct.
use Rattle.std.proofs.Common.{◌≢◌, ℕ, zero, suc, List, [], ◌∷◌, length, ap, arith}
use Rattle.site_model.specs.Sound.{AreDistinct}

pub distinct_one : (a : List ℕ) → AreDistinct (a ∷ [])
distinct_one a zero zero d before inside = absurd (omega arith)
distinct_one a zero (suc j) d before inside = absurd (omega arith)
distinct_one a (suc i) j d before inside = absurd (omega arith)

distinct_two : (a b : List ℕ) → a ≢ b → AreDistinct (a ∷ b ∷ [])
distinct_two a b differ zero zero d before inside = absurd (omega arith)
distinct_two a b differ zero (suc zero) d before inside = differ
distinct_two a b differ zero (suc (suc j)) d before inside = absurd (omega arith)
distinct_two a b differ (suc i) zero d before inside = absurd (omega arith)
distinct_two a b differ (suc i) (suc j) d before inside = absurd (omega arith)

pub distinct_by_length : (a b : List ℕ) → length a ≢ length b → AreDistinct (a ∷ b ∷ [])
distinct_by_length a b differ = distinct_two a b (λ e. differ (ap length e))
