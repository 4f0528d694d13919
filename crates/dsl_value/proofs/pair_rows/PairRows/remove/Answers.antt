use Rattle.std.proofs.Common.{arith}
use Rattle.dsl_value.specs.Rows.{joined}
use Rattle.dsl_value.proofs.Rowed.{sorted_as_without}
use Rattle.dsl_value.proofs.pair_rows.PairRows.remove.Goals as goal

pub invariant_of-self : goal.invariant_of-self
invariant_of-self c = (
  c.remove_among.ensures.full,
  omega (arith, c.self.invariant.1, c.remove_among.ensures.taken),
  sorted_as_without c.args.key.now (joined c.self.inside.rows.items) (joined c.remove_among.new.rows.items) c.remove_among.ensures.same c.self.invariant.2,
)
