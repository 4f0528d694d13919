use Rattle.std.proofs.Common.{refl}
use Rattle.commit_examples.proofs.Computing.{computing}
use Rattle.commit_examples.proofs.groups.groups_without_conditions.Goals as goal

pub returns-clause-a : goal.returns-clause-a
unfolding computing
returns-clause-a c = refl

pub returns-clause-b : goal.returns-clause-b
unfolding computing
returns-clause-b c = refl
