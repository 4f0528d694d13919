use Rattle.std.proofs.Common.{◌-◌}
use Rattle.dsl_value.specs.Rows.{IsBetween}
use Rattle.dsl_value.proofs.pair_rows.row_for.Given as goal

abbrev pub invariant-loop-low : goal.invariant-loop-low
invariant-loop-low l = IsBetween l.rows l.key l.low l.high

abbrev pub decreases-loop-low : goal.decreases-loop-low
decreases-loop-low l = l.high - l.low
