use Rattle.std.proofs.Common.{refl}
use Rattle.commit_examples.proofs.Computing.{computing}
use Rattle.commit_examples.proofs.rules.kept_elements.Goals as goal

pub returns-clause-both : goal.returns-clause-both
unfolding computing
returns-clause-both c = refl

pub returns-clause-second : goal.returns-clause-second
unfolding computing
returns-clause-second c = refl
