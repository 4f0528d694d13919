-- Each join leaves the same downtimes in another order.
use Rattle.std.proofs.Common.{arith}
use Rattle.std.proofs.lemmas.List.Sorted.{IsPermutation-trans}
use Rattle.downtime_book.proofs.runs.join_older.Goals as goal

pub loop-newer-preserved : goal.loop-newer-preserved
loop-newer-preserved c = record {
  same = IsPermutation-trans _ _ _ c.loop-newer.invariant.same c.join.ensures.same;
  place = omega (arith, c.loop-newer.invariant.place, c.join.ensures.length);
}
