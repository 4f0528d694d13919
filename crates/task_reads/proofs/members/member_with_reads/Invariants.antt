-- The object was told as its world says, of what it read so far, and nothing else was given to the baker.
use Rattle.std.proofs.Common.{map}
use Rattle.site_model.specs.PlainSite.{object_view}
use Rattle.eval_work.specs.Works.{view_of}
use Rattle.commit_meaning.specs.Groups.{group_members}
use Rattle.group_rules.specs.Plain.{plain_group}
use Rattle.task_reads.specs.Given.{GivesOnly, member_no}
use Rattle.task_reads.specs.Looks.{reads_of}
use Rattle.task_reads.specs.Telling.{IsToldOf, looks_told}
use Rattle.task_reads.proofs.Reading.{GoesOn}
use Rattle.task_reads.proofs.members.member_with_reads.Given as goal

abbrev pub invariant-loop : goal.invariant-loop
invariant-loop g l = record {
  told : IsToldOf (view_of l.world) l.told;
  goes : GoesOn (λ view. group_members view (map plain_group l.groups) (object_view l.member)) (view_of l.world) (reads_of (looks_told l.told));
  only : GivesOnly (member_no l.member.number) (g.B.Baker.tasks l.fn.baker) (g.B.Baker.tasks l.baker);
}
