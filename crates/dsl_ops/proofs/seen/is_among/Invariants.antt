use Rattle.std.proofs.Common.{◌≡◌, drop}
use Rattle.dsl_ops.specs.Seen.{among}
use Rattle.dsl_ops.proofs.seen.is_among.Given as goal

-- what is left decides
abbrev pub invariant-loop-item : goal.invariant-loop-item
invariant-loop-item l = among l.store.cells (drop l.item-index l.items) l.value ≡ among l.store.cells l.items l.value
