use Rattle.std.proofs.Common.{refl}
use Rattle.commit_examples.proofs.Computing.{computing}
use Rattle.commit_examples.proofs.rules.conditions_behind_others.Goals as goal

pub returns : goal.returns
unfolding computing
returns c = refl
