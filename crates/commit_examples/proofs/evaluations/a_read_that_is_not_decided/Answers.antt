use Rattle.std.proofs.Common.{refl}
use Rattle.commit_examples.proofs.Computing.{computing}
use Rattle.commit_examples.proofs.evaluations.a_read_that_is_not_decided.Goals as goal

pub returns : goal.returns
unfolding computing
returns c = refl
