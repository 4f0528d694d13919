use Rattle.std.proofs.Common.{sym, ◌∙◌, arith}
use Rattle.dsl_value.proofs.Rowed.{pair_here, pair_later}
use Rattle.dsl_value.proofs.pair_rows.pair_among.Goals as goal

pub returns-then-left-len-clause-found : goal.returns-then-left-len-clause-found
returns-then-left-len-clause-found c =
    sym c.loop-row.invariant
    ∙ pair_here c.args.rows.now c.loop-row.row-index c.loop-row.left c.row-item.result c.loop-row-test.true c.row-item.is c.index.result.now (omega (arith, c.if-left-len.true, c.len.ensures)) c.index.ensures

pub loop-row-preserved : goal.loop-row-preserved
loop-row-preserved c =
    pair_later c.args.rows.now c.loop-row.row-index c.loop-row.left c.row-item.result c.loop-row-test.true c.row-item.is c.len-left.result (omega (arith, c.len-left.ensures)) (omega (arith, c.if-left-len.false, c.len.ensures, c.len-left.ensures))
    ∙ c.loop-row.invariant
