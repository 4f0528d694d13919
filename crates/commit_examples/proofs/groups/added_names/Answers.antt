use Rattle.std.proofs.Common.{refl}
use Rattle.commit_examples.proofs.Computing.{computing}
use Rattle.commit_examples.proofs.groups.added_names.Goals as goal

pub returns-clause-first : goal.returns-clause-first
unfolding computing
returns-clause-first c = refl

pub returns-clause-more : goal.returns-clause-more
unfolding computing
returns-clause-more c = refl

pub returns-clause-same : goal.returns-clause-same
unfolding computing
returns-clause-same c = refl
