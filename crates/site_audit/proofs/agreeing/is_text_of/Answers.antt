use Rattle.std.proofs.Common.{◌∙◌, ap, sym}
use Rattle.log_text.specs.Fronts.{behind}
use Rattle.site_audit.proofs.AgreeLaws.{line_first, line_not_first, lines_end}
use Rattle.site_audit.proofs.agreeing.is_text_of.Goals as goal

pub loop-line-preserved : goal.loop-line-preserved
loop-line-preserved c = line_first c.loop-line.line-index c.loop-line.rest.now c.in-Some.behind.now c.args.lines.now c.line-item.result _ c.loop-line-test.true c.line-item.is (ap (λ w. behind w c.loop-line.rest.now) (sym c.as_str.ensures) ∙ c.in-Some.ensures) c.loop-line.invariant

pub returns-in-None : goal.returns-in-None
returns-in-None c = line_not_first c.loop-line.line-index c.loop-line.rest.now c.args.lines.now c.line-item.result _ c.loop-line-test.true c.line-item.is (ap (λ w. behind w c.loop-line.rest.now) (sym c.as_str.ensures) ∙ c.in-None.ensures) c.loop-line.invariant

pub returns : goal.returns
returns c = c.is_empty.ensures ∙ lines_end c.loop-line.line-index c.loop-line.rest.now c.args.lines.now _ c.loop-line-test.false c.loop-line.invariant
