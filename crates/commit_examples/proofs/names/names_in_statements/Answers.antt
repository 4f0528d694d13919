use Rattle.std.proofs.Common.{refl}
use Rattle.commit_examples.proofs.Computing.{computing}
use Rattle.commit_examples.proofs.names.names_in_statements.Goals as goal

pub returns-clause-host : goal.returns-clause-host
unfolding computing
returns-clause-host c = refl

pub returns-clause-service : goal.returns-clause-service
unfolding computing
returns-clause-service c = refl
