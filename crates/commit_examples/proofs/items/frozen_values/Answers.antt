use Rattle.std.proofs.Common.{refl}
use Rattle.commit_examples.proofs.Computing.{computing}
use Rattle.commit_examples.proofs.items.frozen_values.Goals as goal

pub returns-clause-refused : goal.returns-clause-refused
unfolding computing
returns-clause-refused c = refl

pub returns-clause-copied : goal.returns-clause-copied
unfolding computing
returns-clause-copied c = refl
