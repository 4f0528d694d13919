use Rattle.std.proofs.Common.{refl}
use Rattle.commit_examples.proofs.Computing.{computing}
use Rattle.commit_examples.proofs.groups.groups_with_a_fault.Goals as goal

pub returns : goal.returns
unfolding computing
returns c = refl
