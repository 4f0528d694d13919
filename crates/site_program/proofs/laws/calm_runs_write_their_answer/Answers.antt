-- A calm run's answer.
use Rattle.site_program.proofs.OneAnswer.{calm_runs_end}
use Rattle.site_program.proofs.laws.calm_runs_write_their_answer.Goals as goal

pub returns : goal.returns
returns c = calm_runs_end
