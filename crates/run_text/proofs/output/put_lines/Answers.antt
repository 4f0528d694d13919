-- One line more was written, or a part of one.
use Rattle.std.proofs.Common.{arith, rules}
use Rattle.run_text.proofs.Writing.{line_written, line_part}
use Rattle.run_text.proofs.output.put_lines.Goals as goal

pub loop-line-preserved : goal.loop-line-preserved
loop-line-preserved g c =
    let l = c.loop-line in (
      omega (arith, l.invariant.0, c.put.ensures.counts),
      line_written c.args.lines.now l.line-index c.line-item.result c.as_bytes.result.now _ (g.S.Sink.written l.out) _ (omega arith) c.line-item.is c.as_bytes.ensures l.invariant.1 c.in_ok-put.ensures.ok,
      λ calm. c.put.ensures.calm (l.invariant.2 calm),
    )

pub returns-in_err-put-clause-err : goal.returns-in_err-put-clause-err
returns-in_err-put-clause-err g c =
    let l = c.loop-line in
    let part = line_part c.args.lines.now l.line-index c.line-item.result c.as_bytes.result.now _ (g.S.Sink.written l.out) _ (omega arith) c.line-item.is c.as_bytes.ensures l.invariant.1 c.in_err-put.ensures.err in
    search rules
