use Rattle.std.proofs.Common.{T, subst}
use Rattle.dsl_value.specs.Pairs.{is_sorted}
use Rattle.dsl_value.specs.PairsKept.{pairs_kept}
use Rattle.dsl_value.proofs.Rowed.{sorted_either}
use Rattle.dsl_value.proofs.sorted_pairs.put_kept.Goals as goal

pub returns-in-Row-clause-sorted : goal.returns-in-Row-clause-sorted
returns-in-Row-clause-sorted c =
    let sorted = subst (λ kept. T (is_sorted (pairs_kept kept))) c.in-Row.is c.requires in
    sorted_either c.put_with_room.result c.args.key.now c.args.value c.in-Row.row.items c.put_with_room.new.pairs.items c.put_with_room.ensures.ok c.put_with_room.ensures.err sorted
