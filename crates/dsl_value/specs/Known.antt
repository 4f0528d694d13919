-- Cells that were found equal.
use Rattle.std.specs.Prelude.{◌≡◌, ℕ, ◌+◌, ◌*◌, ◌<◌, List, true}
use Rattle.std.specs.Ordering.{nat_cmp}
use Rattle.std.specs.BTreeSet.{contains}
use Rattle.dsl_value.specs.Contents.{PlainCell}
use Rattle.dsl_value.specs.Equality.{refs_equal, equal_within}
use Rattle.dsl_value.specs.declared.known.Known.{Known}
use Rattle.dsl_value.specs.declared.value.Value.TheVariants.{Ref}

-- one number for two cells and a number of levels
abbrev pub number_of : ℕ → ℕ → ℕ → ℕ
number_of levels a b = (a * 4294967296 + b) * 128 + levels

abbrev pub AreEqual : List PlainCell → ℕ → ℕ → ℕ → Type 0
AreEqual cells levels a b = refs_equal (equal_within levels cells) cells (Ref a) (Ref b) ≡ true

-- the number of cells that were found equal is among them only if they are
abbrev pub IsKnown : List PlainCell → Known → Type 0
IsKnown cells known = (levels a b : ℕ) → levels < 128 → b < 4294967296 → contains nat_cmp known.numbers (number_of levels a b) ≡ true → AreEqual cells levels a b
