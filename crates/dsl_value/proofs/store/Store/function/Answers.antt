use Rattle.std.proofs.Common.{arith}
use Rattle.dsl_value.proofs.Kept.{read_captures}
use Rattle.dsl_value.proofs.store.Store.function.Goals as goal

pub returns-else-func-shared-clause-captures : goal.returns-else-func-shared-clause-captures
returns-else-func-shared-clause-captures c = read_captures c.self.inside.frozen c.self.inside.live c.self.inside.base c.self.invariant c.args.self.now c.self.view_is c.args.func _ _ c.functions-shared.ensures (omega (arith, c.if-func-shared.false)) c.requires c.function-else-func-shared.ensures
