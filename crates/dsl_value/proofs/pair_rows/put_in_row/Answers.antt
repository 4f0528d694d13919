use Rattle.std.proofs.Common.{◌≡◌, ◌+◌, length, set, arith}
use Rattle.dsl_value.specs.Rows.{joined}
use Rattle.dsl_value.proofs.Rowed.{changed_sorted, changed_put, changed_same, changed_count, ok_then, err_then, if_ok_then}
use Rattle.dsl_value.proofs.pair_rows.put_in_row.Goals as goal

pub put_counted-requires : goal.put_counted-requires
put_counted-requires c = changed_sorted c.args.rows.now.items c.args.key.now c.args.at c.index_mut.result.now c.index_mut.result.now c.requires.at c.index_mut.ensures.value c.requires.sorted

pub returns-clause-ok : goal.returns-clause-ok
returns-clause-ok c = ok_then c.put_counted.result (changed_put c.args.rows.now.items c.args.key.now c.args.at c.index_mut.result.now c.put_counted.new.row c.requires.at c.index_mut.ensures.value c.args.value) c.put_counted.ensures.ok

pub returns-clause-err : goal.returns-clause-err
returns-clause-err c = err_then c.put_counted.result (changed_same c.args.rows.now.items c.args.key.now c.args.at c.index_mut.result.now c.put_counted.new.row c.requires.at c.index_mut.ensures.value) c.put_counted.ensures.err

pub returns-clause-added : goal.returns-clause-added
returns-clause-added c =
    let count = changed_count c.args.rows.now.items c.args.key.now c.args.at c.index_mut.result.now c.put_counted.new.row c.requires.at c.index_mut.ensures.value in
    if_ok_then (λ n. n + length c.index_mut.result.now.items ≡ length c.put_counted.new.row.items) (λ n. n + length (joined c.args.rows.now.items) ≡ length (joined (set c.args.rows.now.items c.args.at c.put_counted.new.row))) c.put_counted.result
    (λ n e. omega (arith, count, e)) c.put_counted.ensures.added
