-- What is left to compare of two trees.
use Rattle.std.specs.Prelude.{◌≡◌, ℕ, ◌+◌, ◌*◌, ◌<◌, List, [], ◌∷◌, Option, Some, None}
use Rattle.std.specs.List.{AllByRecursion}
use Rattle.site_base.specs.View.{items_view, pairs_view}
use Rattle.site_base.specs.Weight.{items_weight, pairs_weight}
use Rattle.task_reads.specs.declared.equality.Left.{Left}
use Rattle.task_reads.specs.declared.equality.Left.TheVariants as lefts
use Rattle.task_reads.specs.declared.equality.Step.{Step}
use Rattle.task_reads.specs.declared.equality.Step.TheVariants as steps

-- the parts on both sides are equal
abbrev pub IsSame : Left → Type 0
IsSame (lefts.Items one other) = items_view one.now ≡ items_view other.now
IsSame (lefts.Pairs one other) = pairs_view one.now ≡ pairs_view other.now

abbrev pub AreSame : List Left → Type 0
AreSame ls = AllByRecursion IsSame ls

-- what stands on the two sides is equal if and only if this is so
pub record Tells (P Q : Type 0) : Type 0 where
  pub there : P → Q
  pub back : Q → P

-- falls with each turn
abbrev pub left_work : Left → ℕ
left_work (lefts.Items one other) = 1 + 2 * items_weight one.now
left_work (lefts.Pairs one other) = 1 + 2 * pairs_weight one.now

abbrev pub works_of : List Left → ℕ
works_of [] = 0
works_of (l ∷ ls) = left_work l + works_of ls

-- two trees, of which the first weighs so much, are equal if and only if these parts are
abbrev pub IsOpened : ℕ → Type 0 → Option Left → Type 0
IsOpened w P None = P → ⊥
IsOpened w P (Some l) = Tells (IsSame l) P × (left_work l < 2 * w)

-- so are two lists of parts, over which so much work is left
abbrev pub IsStep : ℕ → Type 0 → Step → Type 0
IsStep w P steps.Ended = P
IsStep w P steps.Unequal = P → ⊥
IsStep w P (steps.On inside rest) = Tells (IsSame inside × IsSame rest) P × (left_work inside + left_work rest < w)
