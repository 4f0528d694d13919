use Rattle.std.proofs.Common.{length, ap, arith}
use Rattle.dsl_value.proofs.Rowed.{put_length}
use Rattle.dsl_value.proofs.pair_rows.put_counted.Goals as goal

pub overflow_sub-result : goal.overflow_sub-result
overflow_sub-result c =
    let bounds = put_length c.args.key.now c.args.value c.args.row.now.items in
    omega (arith, bounds.0, bounds.1, ap length c.in_ok-put_pair.ensures.ok, c.len.ensures, c.len-before.ensures)

pub returns-clause-added : goal.returns-clause-added
returns-clause-added c =
    let bounds = put_length c.args.key.now c.args.value c.args.row.now.items in
    omega (arith, bounds.0, bounds.1, ap length c.in_ok-put_pair.ensures.ok, c.len.ensures, c.len-before.ensures)

pub returns-clause-one : goal.returns-clause-one
returns-clause-one c =
    let bounds = put_length c.args.key.now c.args.value c.args.row.now.items in
    omega (arith, bounds.0, bounds.1, ap length c.in_ok-put_pair.ensures.ok, c.len.ensures, c.len-before.ensures)
