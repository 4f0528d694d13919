use Rattle.std.proofs.Common.{◌≡◌, length}
use Rattle.log_text.specs.SiteNames.{names_view}
use Rattle.site_audit.specs.BlockReading.{lines_into}
use Rattle.site_audit.specs.Blocks.{lines_of}
use Rattle.site_audit.proofs.block.read_lines.Given as goal

-- what the rest adds to the block so far is what all lines add
abbrev pub invariant-loop-rest : goal.invariant-loop-rest
invariant-loop-rest l = lines_into l.style (names_view l.names) (lines_of l.rest) l.block ≡ lines_into l.style (names_view l.names) (lines_of l.bytes) l.fn.begun

abbrev pub decreases-loop-rest : goal.decreases-loop-rest
decreases-loop-rest l = length l.rest
