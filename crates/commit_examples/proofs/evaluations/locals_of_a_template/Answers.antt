use Rattle.std.proofs.Common.{refl}
use Rattle.commit_examples.proofs.Computing.{computing}
use Rattle.commit_examples.proofs.evaluations.locals_of_a_template.Goals as goal

pub returns : goal.returns
unfolding computing
returns c = refl
