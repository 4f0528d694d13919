use Rattle.run_meaning.proofs.Cutting.{alone_joined, is_cut, is_joined, stage_joined}
use Rattle.run_meaning.proofs.laws.runs_can_be_cut.Goals as goal

pub returns-clause-cut : goal.returns-clause-cut
returns-clause-cut c = is_cut

pub returns-clause-joined : goal.returns-clause-joined
returns-clause-joined c = is_joined

pub returns-clause-stage : goal.returns-clause-stage
returns-clause-stage c = stage_joined

pub returns-clause-alone : goal.returns-clause-alone
returns-clause-alone c = alone_joined
