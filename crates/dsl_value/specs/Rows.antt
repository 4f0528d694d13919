-- Sorted pairs that lie in several rows.
use Rattle.std.specs.Prelude.{◌≡◌, ℕ, ◌<◌, ◌≤◌, List, [], ◌∷◌, ◌++◌, length, take, drop, Vec}
use Rattle.std.specs.Global.{Global}
use Rattle.std.specs.List.{AllByRecursion}
use Rattle.std.specs.declared.cmp.Ordering.TheVariants.{Less, Greater}
use Rattle.dsl_value.specs.declared.value.Value.{Value}
use Rattle.dsl_value.specs.Pairs.{Pairs, key_cmp}

abbrev pub PairRows : Type 0
PairRows = List (Vec (List ℕ × Value) Global)

-- the pairs of all rows
abbrev pub joined : PairRows → Pairs
joined [] = []
joined (r ∷ rs) = r.items ++ joined rs

-- no row is empty
abbrev pub AreFull : PairRows → Type 0
AreFull = AllByRecursion (λ r. 0 < length r.items)

abbrev pub AreBelow : List ℕ → Pairs → Type 0
AreBelow key = AllByRecursion (λ p. key_cmp key p.0 ≡ Greater)

abbrev pub AreAbove : List ℕ → Pairs → Type 0
AreAbove key = AllByRecursion (λ p. key_cmp key p.0 ≡ Less)

-- lesser keys stand in the rows before some, and greater ones in those from others on
pub record IsBetween (rows : PairRows) (key : List ℕ) (low high : ℕ) : Type 0 where
  pub some : low < high
  pub inside : high ≤ length rows
  pub before : AreBelow key (joined (take low rows))
  pub behind : AreAbove key (joined (drop high rows))
