-- Quotients that are rounded down.
use Rattle.std.proofs.Common.{ℕ, ◌-◌, ◌/◌, ◌%◌, ◌<◌, ◌^◌, ℤ, pos, negsuc, arith}
use Rattle.std.specs.Int.{int_shr}
use Rattle.std.proofs.lemmas.Int.{ints}
use Rattle.std.proofs.Math.Pow.{pow_pos}
use Rattle.dsl_ops.specs.Laws.{IsRoundedDown}

of_pos : (a m : ℕ) → 0 < m → IsRoundedDown (pos a) m (pos (a / m))
of_pos a m some = record { rest = a % m; below = omega arith; all = omega (arith, ints) }

of_negative : (a m : ℕ) → 0 < m → IsRoundedDown (negsuc a) m (negsuc (a / m))
of_negative a m some = record { rest = m - 1 - a % m; below = omega arith; all = omega (arith, ints) }

-- a shift to the right divides by a power of 2 and rounds down
pub rounds_down : (x : ℤ) (n : ℕ) → IsRoundedDown x (2 ^ n) (int_shr x n)
rounds_down (pos a) n = of_pos a (2 ^ n) (pow_pos n)
rounds_down (negsuc a) n = of_negative a (2 ^ n) (pow_pos n)
