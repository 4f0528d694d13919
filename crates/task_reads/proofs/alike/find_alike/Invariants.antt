-- The reads that are left tell of all.
use Rattle.std.proofs.Common.{drop}
use Rattle.eval_work.specs.Works.{view_of}
use Rattle.task_reads.proofs.Finding.{LeftTells}
use Rattle.task_reads.proofs.alike.find_alike.Given as goal

abbrev pub invariant-loop-look : goal.invariant-loop-look
invariant-loop-look l = LeftTells (view_of l.world) l.looks (drop l.look-index l.looks)
