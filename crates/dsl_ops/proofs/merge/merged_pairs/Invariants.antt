use Rattle.std.proofs.Common.{◌≡◌, ◌+◌, ◌++◌, T, length}
use Rattle.dsl_value.specs.Pairs.{is_sorted}
use Rattle.dsl_ops.specs.Table.{merged}
use Rattle.dsl_ops.proofs.merge.merged_pairs.Given as goal

-- those so far, with those of what is left, are all of them
abbrev pub invariant-loop-next : goal.invariant-loop-next
invariant-loop-next l = (l.pairs ++ merged l.left l.right ≡ merged l.fn.left l.fn.right) × T (is_sorted l.right)

abbrev pub decreases-loop-next : goal.decreases-loop-next
decreases-loop-next l = length l.left + length l.right
