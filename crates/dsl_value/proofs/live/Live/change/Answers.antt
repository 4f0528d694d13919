use Rattle.std.proofs.Common.{arith}
use Rattle.dsl_value.specs.Changes.{changed}
use Rattle.dsl_value.proofs.Lending.{back, front}
use Rattle.dsl_value.proofs.live.Live.change.Goals as goal

pub returns-then-cell-lent-clause-ok : goal.returns-then-cell-lent-clause-ok
returns-then-cell-lent-clause-ok c =
    front c.change.result c.self.inside.lent c.self.inside.own c.args.self.now c.change.new.self c.self.view_is c.args.cell c.len-lent.result (changed c.args.change) c.len-lent.ensures.len c.if-cell-lent.true c.change.ensures.ok

pub returns-else-cell-lent-clause-ok : goal.returns-else-cell-lent-clause-ok
returns-else-cell-lent-clause-ok c =
    back c.change-else-cell-lent.result c.self.inside.lent c.self.inside.own c.args.self.now c.change-else-cell-lent.new.self c.self.view_is c.args.cell c.len-lent.result (changed c.args.change) c.len-lent.ensures.len (omega (arith, c.if-cell-lent.false)) c.change-else-cell-lent.ensures.ok
