-- The pair was told as its world says, of what it read so far, and nothing else was given to the baker.
use Rattle.eval_work.specs.Works.{plain_rule, view_of}
use Rattle.commit_meaning.specs.Rules.{instances, pair_number}
use Rattle.apply_rules.specs.Plain.{plain_target}
use Rattle.task_reads.specs.Given.{GivesOnly, pair_no}
use Rattle.task_reads.specs.Looks.{reads_of}
use Rattle.task_reads.specs.Telling.{IsToldOf, looks_told}
use Rattle.task_reads.proofs.Reading.{GoesOn}
use Rattle.task_reads.proofs.pairs.pair_with_reads.Given as goal

abbrev pub invariant-loop : goal.invariant-loop
invariant-loop g l = record {
  told : IsToldOf (view_of l.world) l.told;
  goes : GoesOn (λ view. instances view (plain_rule l.rule) (plain_target l.target)) (view_of l.world) (reads_of (looks_told l.told));
  only : GivesOnly (pair_no (pair_number (plain_rule l.rule) (plain_target l.target))) (g.B.Baker.tasks l.fn.baker) (g.B.Baker.tasks l.baker);
}
