use Rattle.std.proofs.Common.{◌≡◌, length}
use denote.Shadow.{shadow}
use denote.Text.{Utf8}
use Rattle.site_query.specs.Reading.{lines_of, lines_read}
use Rattle.site_query.proofs.reading.read_lines.Given as goal

-- what the rest tells behind the lines so far is what the whole tells
abbrev pub invariant-loop-rest : goal.invariant-loop-rest
invariant-loop-rest l = shadow (Utf8 l.rest) × (lines_read l.query l.number (lines_of l.rest) ≡ lines_read l.fn.start 1 (lines_of l.text))

abbrev pub decreases-loop-rest : goal.decreases-loop-rest
decreases-loop-rest l = length l.rest
