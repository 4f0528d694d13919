use Rattle.std.proofs.Common.{◌≡◌, ◌++◌, ◌-ℤ◌}
use Rattle.dsl_lib.specs.Sets.{numbers_from, steps_below, numbers_below}
use Rattle.dsl_lib.proofs.ranges.numbers.Given as goal

abbrev pub invariant-loop-end : goal.invariant-loop-end
invariant-loop-end l = l.numbers ++ numbers_from (steps_below (l.end -ℤ l.next) l.step) l.next l.step ≡ numbers_below l.fn.first l.end l.step

abbrev pub decreases-loop-end : goal.decreases-loop-end
decreases-loop-end l = steps_below (l.end -ℤ l.next) l.step
