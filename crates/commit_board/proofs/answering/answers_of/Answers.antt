-- One answer more.
use Rattle.std.proofs.Common.{◌+◌, sym, subst, take}
use Rattle.std.specs.List.{AllZip}
use Rattle.commit_board.proofs.Zipped.{zip_next}
use Rattle.commit_board.proofs.answering.answers_of.Goals as goal

pub loop-task-preserved : goal.loop-task-preserved
loop-task-preserved g c =
    let gives = g.E.Evaluate.gives c.args.evaluate.now in
    let tasks = c.args.tasks.now in
    let i = c.loop-task.task-index in
    subst (λ xs. AllZip gives (take (i + 1) tasks) xs) (sym c.in_ok-push.ensures.items)
    (zip_next gives tasks c.loop-task.answers.items i c.task-item.result c.in_ok-answer.answer c.loop-task-test.true c.task-item.is c.loop-task.invariant c.in_ok-answer.ensures)
