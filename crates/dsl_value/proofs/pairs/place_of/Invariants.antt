use Rattle.std.proofs.Common.{◌-◌}
use Rattle.dsl_value.proofs.Searching.{IsAround}
use Rattle.dsl_value.proofs.pairs.place_of.Given as goal

abbrev pub invariant-loop-low : goal.invariant-loop-low
invariant-loop-low l = IsAround l.pairs l.key l.low l.high

abbrev pub decreases-loop-low : goal.decreases-loop-low
decreases-loop-low l = l.high - l.low
