use Rattle.std.proofs.Common.{arith}
use Rattle.dsl_value.proofs.Kept.{read_stands}
use Rattle.dsl_value.proofs.store.Store.cell.Goals as goal

pub returns-else-cell-shared-clause-stands : goal.returns-else-cell-shared-clause-stands
returns-else-cell-shared-clause-stands c = read_stands c.self.inside.frozen c.self.inside.live c.self.inside.base c.self.invariant c.args.self.now c.self.view_is c.args.cell _ _ c.len-shared.ensures (omega (arith, c.if-cell-shared.false)) c.requires c.cell-else-cell-shared.ensures
