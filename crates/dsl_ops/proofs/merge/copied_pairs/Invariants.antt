use Rattle.std.proofs.Common.{◌≡◌, ◌++◌, length}
use Rattle.dsl_ops.proofs.merge.copied_pairs.Given as goal

-- the pairs so far, with those that are left
abbrev pub invariant-loop-pair : goal.invariant-loop-pair
invariant-loop-pair l = l.copy ++ l.left ≡ l.pairs

abbrev pub decreases-loop-pair : goal.decreases-loop-pair
decreases-loop-pair l = length l.left
