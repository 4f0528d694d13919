use Rattle.std.proofs.Common.{◌≡◌, ◌++◌, length}
use Rattle.dsl_value.specs.Rows.{joined, AreFull}
use Rattle.dsl_value.proofs.pair_rows.dealt_out.Given as goal

-- the rows so far, with the pairs that are left
abbrev pub invariant-loop-left : goal.invariant-loop-left
invariant-loop-left l = (joined l.rows.items ++ l.left ≡ l.row) × AreFull l.rows.items

abbrev pub decreases-loop-left : goal.decreases-loop-left
decreases-loop-left l = length l.left
