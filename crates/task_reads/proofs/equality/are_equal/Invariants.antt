-- What is left tells of the whole.
use Rattle.std.proofs.Common.{◌≡◌}
use Rattle.site_base.specs.View.{view}
use Rattle.task_reads.specs.Lefts.{AreSame, Tells, works_of}
use Rattle.task_reads.proofs.equality.are_equal.Given as goal

abbrev pub invariant-loop-left : goal.invariant-loop-left
invariant-loop-left l = Tells (AreSame l.open.items) (view l.one ≡ view l.other)

abbrev pub decreases-loop-left : goal.decreases-loop-left
decreases-loop-left l = works_of l.open.items
