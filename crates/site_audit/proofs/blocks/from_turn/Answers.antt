use Rattle.std.proofs.Common.{sym, ◌∙◌, arith}
use Rattle.site_audit.proofs.Cutting.{line_passed}
use Rattle.site_audit.proofs.blocks.from_turn.Goals as goal

pub loop-line-preserved : goal.loop-line-preserved
loop-line-preserved c =
    let shorter = c.cut_line.ensures.shorter in
    let within = c.loop-line.invariant.1 in (
      line_passed c.loop-line.rest.now c.cut_line.result.0.now c.cut_line.result.1.now c.cut_line.ensures.lines (sym c.begins_turn.ensures ∙ c.if-begins_turn.false) ∙ c.loop-line.invariant.0,
      omega (arith, shorter, within),
    )
