use Rattle.std.proofs.Common.{sym, subst}
use Rattle.log_text.specs.Fronts.{Gives}
use Rattle.log_text.specs.SiteNames.{names_view}
use Rattle.site_audit.proofs.WordLoops.{first_is}
use Rattle.site_audit.proofs.block.read_block.Goals as goal

pub returns : goal.returns
returns c =
    subst (Gives (λ x. x) c.read_lines.result)
    (sym (first_is c.args.style (names_view c.args.names.now) c.args.bytes.now c.cut_line.result.0.now c.cut_line.result.1.now c.in_ok-block.block c.cut_line.ensures.lines c.in_ok-block.ensures)) c.read_lines.ensures
