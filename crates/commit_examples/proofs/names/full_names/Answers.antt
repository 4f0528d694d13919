use Rattle.std.proofs.Common.{refl}
use Rattle.commit_examples.proofs.Computing.{computing}
use Rattle.commit_examples.proofs.names.full_names.Goals as goal

pub returns-clause-host : goal.returns-clause-host
unfolding computing
returns-clause-host c = refl

pub returns-clause-service : goal.returns-clause-service
unfolding computing
returns-clause-service c = refl

pub returns-clause-unset : goal.returns-clause-unset
unfolding computing
returns-clause-unset c = refl

pub returns-clause-child : goal.returns-clause-child
unfolding computing
returns-clause-child c = refl
