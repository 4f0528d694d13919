use Rattle.std.proofs.Common.{◌≡◌, take}
use Rattle.dsl_value.specs.Rows.{joined, AreFull}
use Rattle.dsl_value.proofs.pair_rows.copied_rows.Given as goal

-- the rows so far
abbrev pub invariant-loop-row : goal.invariant-loop-row
invariant-loop-row l = (joined l.copy.items ≡ joined (take l.row-index l.rows)) × (AreFull l.rows → AreFull l.copy.items)
