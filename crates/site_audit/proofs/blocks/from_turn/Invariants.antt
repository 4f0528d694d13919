use Rattle.std.proofs.Common.{◌≡◌, ◌≤◌, length, drop}
use Rattle.std.specs.List.{prefix_len}
use Rattle.site_audit.specs.Blocks.{goes_on, lines_of}
use Rattle.site_audit.proofs.blocks.from_turn.Given as goal

-- the rest goes on to where the whole does
abbrev pub invariant-loop-line : goal.invariant-loop-line
invariant-loop-line l =
    (drop (prefix_len goes_on (lines_of l.rest)) (lines_of l.rest) ≡ drop (prefix_len goes_on (lines_of l.bytes)) (lines_of l.bytes)) × (length l.rest ≤ length l.bytes)

abbrev pub decreases-loop-line : goal.decreases-loop-line
decreases-loop-line l = length l.rest
