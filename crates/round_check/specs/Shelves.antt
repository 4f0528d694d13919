-- Lists by checkable, and counts by checkable.
use Rattle.std.specs.Prelude.{ℕ, List, [], Vec, Option, Some, None}
use Rattle.std.specs.declared.alloc.Global.{Global}
use Rattle.std.specs.BTreeMap.{is_at}
use Rattle.std.specs.Map.{lookup}
use Rattle.std.specs.Ordering.{nat_cmp}

abbrev pub items_or : {A : Type 0} → Option (Vec A Global) → List A
items_or None = []
items_or (Some v) = v.items

-- the list of a checkable, which is empty if none was begun
abbrev pub listed : {A : Type 0} → List (ℕ × Vec A Global) → ℕ → List A
listed entries p = items_or (lookup (is_at (nat_cmp p)) entries)

abbrev pub count_or : Option ℕ → ℕ
count_or None = 0
count_or (Some n) = n

-- the count of a checkable, which begins with 0
abbrev pub counted : List (ℕ × ℕ) → ℕ → ℕ
counted entries p = count_or (lookup (is_at (nat_cmp p)) entries)
