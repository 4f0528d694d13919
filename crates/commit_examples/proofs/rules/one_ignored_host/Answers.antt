use Rattle.std.proofs.Common.{refl}
use Rattle.commit_examples.proofs.Computing.{computing}
use Rattle.commit_examples.proofs.rules.one_ignored_host.Goals as goal

pub returns-clause-ignored : goal.returns-clause-ignored
unfolding computing
returns-clause-ignored c = refl

pub returns-clause-kept : goal.returns-clause-kept
unfolding computing
returns-clause-kept c = refl
