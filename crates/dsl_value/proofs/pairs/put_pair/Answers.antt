use Rattle.std.proofs.Common.{arith}
use Rattle.dsl_value.proofs.Places.{put_in_gap, put_in_place}
use Rattle.dsl_value.proofs.pairs.put_pair.Goals as goal

pub returns-in-Ok-clause-ok : goal.returns-in-Ok-clause-ok
returns-in-Ok-clause-ok c = put_in_place c.args.pairs.now.items c.args.key.now c.as_str.result.now c.args.value c.in-Ok.at c.index_mut.result.now c.deref.result.now c.in-Ok.ensures.found c.deref.ensures.value c.as_str.ensures c.index_mut.ensures.value

pub returns-in_ok-insert-in-Err-clause-ok : goal.returns-in_ok-insert-in-Err-clause-ok
returns-in_ok-insert-in-Err-clause-ok c = grind (arith, put_in_gap _ _ c.args.value _ c.in-Err.ensures.absent, c.in_ok-insert-in-Err.ensures.items)
