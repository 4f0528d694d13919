-- Those so far, with those among what is left, are all of them.
use Rattle.std.proofs.Common.{◌≡◌, ◌++◌}
use Rattle.lasting_problems.specs.Noted.{late_in}
use Rattle.lasting_problems.proofs.problems.late_among.Given as goal

abbrev pub invariant-loop-checkable : goal.invariant-loop-checkable
invariant-loop-checkable l = l.late.items ++ late_in l.moment l.checkable-iterator ≡ late_in l.moment l.moments.entries
