use Rattle.std.proofs.Common.{refl}
use Rattle.commit_examples.proofs.Computing.{computing}
use Rattle.commit_examples.proofs.names.presets.Goals as goal

pub returns-clause-service : goal.returns-clause-service
unfolding computing
returns-clause-service c = refl

pub returns-clause-notification : goal.returns-clause-notification
unfolding computing
returns-clause-notification c = refl

pub returns-clause-of_host : goal.returns-clause-of_host
unfolding computing
returns-clause-of_host c = refl

pub returns-clause-of_service : goal.returns-clause-of_service
unfolding computing
returns-clause-of_service c = refl
