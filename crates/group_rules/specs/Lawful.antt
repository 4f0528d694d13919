-- What groups have to be so that they are evaluated over a view.
use Rattle.std.specs.Prelude.{List}
use Rattle.std.specs.Borrow.{Bor}
use Rattle.std.specs.List.{AllByRecursion}
use Rattle.dsl_value.specs.Contents.{Contents}
use Rattle.eval_work.specs.Kept.{PairsNamed}
use Rattle.eval_work.specs.declared.item.Item.{Item}

-- what each group captured names cells and functions of a store
abbrev pub GroupsNamed : Contents → List (Bor Item) → Type 0
GroupsNamed c gs = AllByRecursion (λ g. PairsNamed c g.now.captured.items) gs
