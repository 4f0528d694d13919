use Rattle.std.proofs.Common.{refl}
use Rattle.commit_examples.proofs.Computing.{computing}
use Rattle.commit_examples.proofs.evaluations.loops_over_what_changes.Goals as goal

pub returns : goal.returns
unfolding computing
returns c = refl
