use Rattle.std.proofs.Common.{length}
use Rattle.site_base.proofs.Digits.{IsPart}
use Rattle.site_base.proofs.reading.part_of_unit.Given as goal

abbrev pub invariant-loop-digits : goal.invariant-loop-digits
invariant-loop-digits l = IsPart l.behind l.digits l.size l.part

abbrev pub decreases-loop-digits : goal.decreases-loop-digits
decreases-loop-digits l = length l.digits
