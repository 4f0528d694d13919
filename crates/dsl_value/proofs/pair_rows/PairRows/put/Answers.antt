use Rattle.std.proofs.Common.{arith}
use Rattle.dsl_value.specs.Rows.{joined}
use Rattle.dsl_value.proofs.Rowed.{sorted_as_put}
use Rattle.dsl_value.proofs.pair_rows.PairRows.put.Goals as goal

pub invariant_of-self-2 : goal.invariant_of-self-2
invariant_of-self-2 c = (
  c.in_ok-added.ensures.full,
  omega (arith, c.self.invariant.1, c.in_ok-added.ensures.added),
  sorted_as_put c.args.key.now c.args.value (joined c.self.inside.rows.items) (joined c.put_among.new.rows.items) c.in_ok-added.ensures.ok c.self.invariant.2,
)
