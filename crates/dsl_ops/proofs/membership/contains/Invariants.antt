use Rattle.std.proofs.Common.{◌≡◌, drop}
use Rattle.std.specs.List.{list_any}
use Rattle.dsl_ops.specs.Table.{same_in}
use Rattle.dsl_ops.proofs.membership.contains.Given as goal

-- what is left decides
abbrev pub invariant-loop-item : goal.invariant-loop-item
invariant-loop-item l = list_any (same_in l.store.cells l.value) (drop l.item-index l.items) ≡ list_any (same_in l.store.cells l.value) l.items
