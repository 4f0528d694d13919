-- The order of items' numbers.
use Rattle.std.specs.Prelude.{ℕ, List, [], ◌∷◌}
use Rattle.std.specs.Cmp.Lexicographic.{slice_cmp}
use Rattle.std.specs.Ordering.{nat_cmp}
use Rattle.std.specs.declared.cmp.Ordering.{Ordering}
use Rattle.site_base.specs.declared.item_no.ItemNo.{ItemNo}

-- the fields of an item's number, from the first on
abbrev pub fields : ItemNo → List ℕ
fields n = n.item ∷ n.target.item ∷ n.target.host ∷ n.target.key ∷ n.key ∷ []

-- how two numbers compare: by the first field in which they differ
abbrev pub by_fields : ItemNo → ItemNo → Ordering
by_fields a b = slice_cmp nat_cmp (fields a) (fields b)
