-- The order of items, objects and diagnostics by their numbers.
use Rattle.std.specs.Prelude.{List, [], ◌∷◌, Bool, if◌then◌else◌}
use Rattle.std.specs.Ordering.{is_gt}
use Rattle.site_base.specs.Order.{by_fields}
use Rattle.site_base.specs.declared.item_no.ItemNo.{ItemNo}

-- one number is behind another
abbrev pub is_behind : ItemNo → ItemNo → Bool
is_behind a b = is_gt (by_fields a b)

-- a thing goes before the first of these that isn't before it
abbrev pub inserted : {A : Type 0} → (A → ItemNo) → A → List A → List A
inserted n a [] = a ∷ []
inserted n a (b ∷ bs) = if is_behind (n a) (n b) then b ∷ inserted n a bs else a ∷ b ∷ bs

-- things by their numbers; those of one number stay in their order
abbrev pub by_number : {A : Type 0} → (A → ItemNo) → List A → List A
by_number n [] = []
by_number n (a ∷ more) = inserted n a (by_number n more)
