-- The entries so far are those of the lines that were passed.
use Rattle.std.proofs.Common.{length}
use Rattle.log_text.specs.SiteNames.{names_view}
use Rattle.site_keep.proofs.PassLaws.{LinesSoFar}
use Rattle.site_keep.proofs.lines.take_lines.Given as goal

abbrev pub invariant-each_line : goal.invariant-each_line
invariant-each_line l = LinesSoFar (names_view l.names) l.initial.reader l.reader l.lines.place l.lines.entries.items

abbrev pub decreases-each_line : goal.decreases-each_line
decreases-each_line l = length l.reader
