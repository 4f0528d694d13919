-- Equality, level by level.
use Rattle.std.proofs.Common.{◌≡◌, ℕ, zero, suc, ◌-◌, ◌<◌, List, refl, ap, arith}
use Rattle.dsl_value.specs.Contents.{PlainCell}
use Rattle.dsl_value.specs.Equality.{scalars_equal, refs_equal, equal_within}
use Rattle.dsl_value.specs.declared.value.Value.{Value}

pub no_level : (levels : ℕ) (cells : List PlainCell) (a b : Value) → levels ≡ 0 → equal_within levels cells a b ≡ scalars_equal a b
unfolding equal_within
no_level zero cells a b none = refl
no_level (suc n) cells a b none = absurd (omega (arith, none))

pub a_level : (levels : ℕ) (cells : List PlainCell) (a b : Value) → 0 < levels → equal_within levels cells a b ≡ refs_equal (equal_within (levels - 1) cells) cells a b
unfolding equal_within
a_level zero cells a b some = absurd (omega (arith, some))
a_level (suc n) cells a b some = ap (λ m. refs_equal (equal_within m cells) cells a b) {x = n} (omega arith)
