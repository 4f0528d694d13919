use Rattle.std.proofs.Common.{◌≡◌, drop}
use Rattle.down_recur.specs.Due.{least_start}
use Rattle.down_recur.proofs.looking.least_start.Given as goal

abbrev pub invariant-loop-segment : goal.invariant-loop-segment
invariant-loop-segment l = least_start l.after l.least (drop l.segment-index l.segments) ≡ least_start l.after l.most l.segments
