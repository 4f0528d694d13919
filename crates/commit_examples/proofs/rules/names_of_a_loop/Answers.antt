use Rattle.std.proofs.Common.{refl}
use Rattle.commit_examples.proofs.Computing.{computing}
use Rattle.commit_examples.proofs.rules.names_of_a_loop.Goals as goal

pub returns-clause-one : goal.returns-clause-one
unfolding computing
returns-clause-one c = refl

pub returns-clause-mixed : goal.returns-clause-mixed
unfolding computing
returns-clause-mixed c = refl

pub returns-clause-null : goal.returns-clause-null
unfolding computing
returns-clause-null c = refl
