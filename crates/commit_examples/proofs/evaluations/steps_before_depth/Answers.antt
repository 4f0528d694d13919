use Rattle.std.proofs.Common.{refl}
use Rattle.commit_examples.proofs.Computing.{computing}
use Rattle.commit_examples.proofs.evaluations.steps_before_depth.Goals as goal

pub returns-clause-step : goal.returns-clause-step
unfolding computing
returns-clause-step c = refl

pub returns-clause-depth : goal.returns-clause-depth
unfolding computing
returns-clause-depth c = refl
