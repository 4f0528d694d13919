use Rattle.std.proofs.Common.{◌≡◌, drop}
use Rattle.down_recur.specs.Rests.{least_from}
use Rattle.down_recur.proofs.rests.least_of.Given as goal

abbrev pub invariant-loop-second : goal.invariant-loop-second
invariant-loop-second l = least_from l.least (drop l.second-index l.seconds) ≡ least_from 18446744073709551615 l.seconds
