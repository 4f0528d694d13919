-- Diagnostics by the numbers of their items.
use Rattle.std.specs.Prelude.{List}
use Rattle.std.specs.Ordering.{nat_cmp, ordering_then}
use Rattle.std.specs.declared.cmp.Ordering.{Ordering}
use Rattle.std.specs.List.Sorted.{IsPermutation, IsSortedByKey, IsStableByKey}
use Rattle.site_base.specs.declared.diag.Diag.{Diag}
use Rattle.site_base.specs.declared.item_no.ItemNo.{ItemNo}
use Rattle.site_base.specs.declared.target_no.TargetNo.{TargetNo}

-- how targets compare: by the first field in which they differ
abbrev pub target_cmp : TargetNo → TargetNo → Ordering
target_cmp a b = ordering_then (nat_cmp a.item b.item) (ordering_then (nat_cmp a.host b.host) (nat_cmp a.key b.key))

-- and the numbers of items
abbrev pub number_cmp : ItemNo → ItemNo → Ordering
number_cmp a b = ordering_then (nat_cmp a.item b.item) (ordering_then (target_cmp a.target b.target) (nat_cmp a.key b.key))

-- diagnostics are these, by the numbers of their items, and those of one item stay in their order
pub record IsByNumber (given sorted : List Diag) : Type 0 where
  pub same : IsPermutation given sorted
  pub rising : IsSortedByKey (λ d. d.number) number_cmp sorted
  pub stable : IsStableByKey (λ d. d.number) number_cmp given sorted
