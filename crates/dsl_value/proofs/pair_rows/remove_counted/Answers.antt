use Rattle.std.proofs.Common.{length, ap, arith}
use Rattle.dsl_value.proofs.Rowed.{without_length}
use Rattle.dsl_value.proofs.pair_rows.remove_counted.Goals as goal

pub overflow_sub-result : goal.overflow_sub-result
overflow_sub-result c = omega (arith, without_length c.args.key.now c.args.row.now.items, ap length c.remove_pair.ensures, c.len.ensures, c.len-before.ensures)

pub returns-clause-taken : goal.returns-clause-taken
returns-clause-taken c = omega (arith, without_length c.args.key.now c.args.row.now.items, ap length c.remove_pair.ensures, c.len.ensures, c.len-before.ensures)
