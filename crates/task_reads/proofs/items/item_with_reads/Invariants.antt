-- The item was told as its world says, of what it read so far, and nothing else was given to the baker.
use Rattle.eval_work.specs.Works.{view_of}
use Rattle.commit_meaning.specs.Items.{item_answer}
use Rattle.wave_order.specs.WaveItems.{plain_pending}
use Rattle.task_reads.specs.Given.{GivesOnly, item_no}
use Rattle.task_reads.specs.Looks.{reads_of}
use Rattle.task_reads.specs.Telling.{IsToldOf, looks_told}
use Rattle.task_reads.proofs.Reading.{GoesOn}
use Rattle.task_reads.proofs.items.item_with_reads.Given as goal

abbrev pub invariant-loop : goal.invariant-loop
invariant-loop g l = record {
  told : IsToldOf (view_of l.world) l.told;
  goes : GoesOn (λ view. item_answer view (plain_pending l.item)) (view_of l.world) (reads_of (looks_told l.told));
  only : GivesOnly (item_no (plain_pending l.item).number) (g.B.Baker.tasks l.fn.baker) (g.B.Baker.tasks l.baker);
}
