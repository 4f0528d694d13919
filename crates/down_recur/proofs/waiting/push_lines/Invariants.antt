use Rattle.std.proofs.Common.{◌≡◌, ◌++◌, drop}
use Rattle.down_recur.specs.Giving.{lines_of}
use Rattle.down_recur.proofs.waiting.push_lines.Given as goal

abbrev pub invariant-loop-segment : goal.invariant-loop-segment
invariant-loop-segment l = l.out.items ++ lines_of l.moment l.recurring (drop l.segment-index l.segments) ≡ l.fn.out.items ++ lines_of l.moment l.recurring l.segments
