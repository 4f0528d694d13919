-- So far the downtimes are the same, in another order.
use Rattle.std.proofs.Common.{◌-◌, ◌≤◌, length, IsPermutation}
use Rattle.downtime_book.specs.Contents.{together}
use Rattle.downtime_book.proofs.runs.join_older.Given as goal

abbrev pub invariant-loop-newer : goal.invariant-loop-newer
invariant-loop-newer l = record {
  same : IsPermutation (together l.initial.runs.items) (together l.runs.items);
  place : l.newer ≤ length l.runs.items - 1;
}

abbrev pub decreases-loop-newer : goal.decreases-loop-newer
decreases-loop-newer l = l.newer
