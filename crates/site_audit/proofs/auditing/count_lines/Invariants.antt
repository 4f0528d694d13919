use Rattle.std.proofs.Common.{◌≡◌, ◌≤◌, ◌+◌, length}
use Rattle.site_audit.specs.Blocks.{lines_of}
use Rattle.site_audit.proofs.auditing.count_lines.Given as goal

-- the lines so far, and those of the rest; each has a byte
abbrev pub invariant-loop-rest : goal.invariant-loop-rest
invariant-loop-rest l = (l.count + length (lines_of l.rest) ≡ length (lines_of l.bytes)) × (l.count + length l.rest ≤ length l.bytes)

abbrev pub decreases-loop-rest : goal.decreases-loop-rest
decreases-loop-rest l = length l.rest
