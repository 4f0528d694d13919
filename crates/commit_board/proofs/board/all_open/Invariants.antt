-- What is left comes behind the slots so far.
use Rattle.std.proofs.Common.{◌≡◌, ◌++◌, map}
use Rattle.std.specs.Vec.Iter.{into_iter_items}
use Rattle.commit_board.specs.declared.slot.Slot.TheVariants.{Open}
use Rattle.commit_board.proofs.board.all_open.Given as goal

abbrev pub invariant-loop-task : goal.invariant-loop-task
invariant-loop-task g l = l.slots.items ++ map (λ t. Open t) (into_iter_items l.task-iterator) ≡ map (λ t. Open t) l.fn.tasks.items
