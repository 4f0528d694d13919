-- The batches so far, the one that is filled, and the tasks that are left are all tasks.
use Rattle.std.proofs.Common.{◌≡◌, ◌++◌}
use Rattle.std.specs.Vec.Iter.{into_iter_items}
use Rattle.commit_board.specs.Work.{all_in}
use Rattle.commit_board.proofs.batches.batches_of.Given as goal

abbrev pub invariant-loop-task : goal.invariant-loop-task
invariant-loop-task g l = all_in l.batches.items ++ (l.batch.items ++ into_iter_items l.task-iterator) ≡ l.fn.tasks.items
