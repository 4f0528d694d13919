use Rattle.std.proofs.Common.{refl}
use Rattle.commit_examples.proofs.Computing.{computing}
use Rattle.commit_examples.proofs.items.written_name.Goals as goal

pub returns-clause-made : goal.returns-clause-made
unfolding computing
returns-clause-made c = refl

pub returns-clause-missing : goal.returns-clause-missing
unfolding computing
returns-clause-missing c = refl
