use Rattle.std.proofs.Common.{◌≡◌, ◌++◌, drop, filter}
use Rattle.down_recur.specs.Due.{is_due}
use Rattle.down_recur.proofs.looking.due_among.Given as goal

abbrev pub invariant-loop-segment : goal.invariant-loop-segment
invariant-loop-segment l = l.due.items ++ filter (is_due l.window.from l.window.till l.moment) (drop l.segment-index l.segments) ≡ filter (is_due l.window.from l.window.till l.moment) l.segments
