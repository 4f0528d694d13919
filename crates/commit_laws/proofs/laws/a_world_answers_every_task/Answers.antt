use Rattle.commit_laws.proofs.Told.{answers_all}
use Rattle.commit_laws.proofs.laws.a_world_answers_every_task.Goals as goal

pub returns : goal.returns
returns c = answers_all
