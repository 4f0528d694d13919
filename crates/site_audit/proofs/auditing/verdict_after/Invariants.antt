use Rattle.std.proofs.Common.{◌≡◌, ◌≤◌, ◌+◌, ◌-◌, length}
use Rattle.site_audit.specs.Audit.{verdict_from}
use Rattle.site_audit.specs.Blocks.{blocks_of, lines_of}
use Rattle.site_audit.proofs.auditing.verdict_after.Given as goal

-- the rest tells what all does, and each line has a byte
abbrev pub invariant-loop : goal.invariant-loop
invariant-loop l =
    (verdict_from l.line (l.agreed - l.counter) (blocks_of (lines_of l.rest)) ≡ verdict_from l.first l.agreed (blocks_of (lines_of l.log))) × (l.line + length l.rest ≤ l.first + length l.log)
