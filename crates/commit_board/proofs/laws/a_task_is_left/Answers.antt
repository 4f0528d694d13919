use Rattle.commit_board.proofs.Waiting.{is_left}
use Rattle.commit_board.proofs.laws.a_task_is_left.Goals as goal

pub returns : goal.returns
returns g c = is_left
