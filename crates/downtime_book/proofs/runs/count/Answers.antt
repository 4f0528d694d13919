-- Each turn counts one run more, and no part is longer than the whole.
use Rattle.std.proofs.Common.{◌+◌, length, List, ap, ◌∙◌, arith, take_all}
use Rattle.downtime_book.specs.declared.downtime.Downtime.{Downtime}
use Rattle.downtime_book.specs.Contents.{together}
use Rattle.downtime_book.proofs.Together.{counted_more, counted_most}
use Rattle.downtime_book.proofs.runs.count.Goals as goal

pub overflow_add-total : goal.overflow_add-total
overflow_add-total c =
    let i = c.loop-run.run-index in
    let more = counted_more c.args.runs.now i c.run-item.result (omega arith) in
    let here = ap length c.run-item.is in
    let most = counted_most c.args.runs.now (i + 1) in
    omega (arith, more, here, most, c.loop-run.invariant, c.len-total.ensures, c.requires)

pub loop-run-preserved : goal.loop-run-preserved
loop-run-preserved c =
    let more = counted_more c.args.runs.now c.loop-run.run-index c.run-item.result (omega arith) in
    let here = ap length c.run-item.is in
    omega (arith, more, here, c.loop-run.invariant, c.len-total.ensures)

pub returns : goal.returns
returns c =
    c.loop-run.invariant ∙ ap (λ (l : List (List Downtime)). length (together l)) (take_all c.loop-run.run-index c.args.runs.now (omega arith))
