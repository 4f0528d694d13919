-- The answers so far are those of the tasks so far.
use Rattle.std.proofs.Common.{take}
use Rattle.std.specs.List.{AllZip}
use Rattle.commit_board.proofs.answering.answers_of.Given as goal

abbrev pub invariant-loop-task : goal.invariant-loop-task
invariant-loop-task g l = AllZip (g.E.Evaluate.gives l.evaluate) (take l.task-index l.tasks) l.answers.items
