use Rattle.std.proofs.Common.{length, take}
use Rattle.dsl_ops.specs.Seen.{IsSeen}
use Rattle.dsl_ops.proofs.seen.seen_of.Given as goal

abbrev pub invariant-loop-item : goal.invariant-loop-item
invariant-loop-item l = IsSeen (length l.store.cells) (length l.store.functions) l.store.cells (take l.item-index l.items) l.seen
