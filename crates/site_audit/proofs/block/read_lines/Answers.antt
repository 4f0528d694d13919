use Rattle.log_text.specs.SiteNames.{names_view}
use Rattle.site_audit.specs.BlockReading.{lines_into}
use Rattle.site_audit.specs.Blocks.{lines_of}
use Rattle.site_audit.proofs.WordLoops.{line_goes_on}
use Rattle.site_audit.proofs.block.read_lines.Goals as goal

pub loop-rest-preserved : goal.loop-rest-preserved
loop-rest-preserved c =
    line_goes_on c.args.style (names_view c.args.names.now) c.loop-rest.block c.in_ok-next.next c.loop-rest.rest.now c.cut_line.result.0.now c.cut_line.result.1.now
    (lines_into c.args.style (names_view c.args.names.now) (lines_of c.args.bytes.now) c.args.begun) c.cut_line.ensures.lines c.in_ok-next.ensures c.loop-rest.invariant
