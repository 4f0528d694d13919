-- What is left comes behind what is joined.
use Rattle.std.proofs.Common.{◌≡◌, ◌++◌}
use Rattle.std.specs.Vec.Iter.{into_iter_items}
use Rattle.commit_board.specs.Work.{all_in}
use Rattle.commit_board.proofs.batches.joined.Given as goal

abbrev pub invariant-loop-batch : goal.invariant-loop-batch
invariant-loop-batch g l = l.all.items ++ all_in (into_iter_items l.batch-iterator) ≡ all_in l.fn.batches.items
