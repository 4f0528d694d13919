use Rattle.std.proofs.Common.{arith}
use Rattle.dsl_value.proofs.Numbered.{one_more, unchanged}
use Rattle.dsl_value.proofs.known.Known.add.Goals as goal

pub returns-in-Ok : goal.returns-in-Ok
returns-in-Ok c = λ cells known equal.
    one_more cells c.args.self.now.numbers c.insert.new.self c.number.result c.args.levels c.args.left c.args.right c.number.ensures (omega arith) (omega arith) c.in-Ok.ensures.updates known equal

pub returns-in-Err : goal.returns-in-Err
returns-in-Err c = λ cells known equal. unchanged cells c.args.self.now.numbers c.insert.new.self c.in-Err.ensures.err known
