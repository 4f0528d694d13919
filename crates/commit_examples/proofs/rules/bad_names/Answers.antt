use Rattle.std.proofs.Common.{refl}
use Rattle.commit_examples.proofs.Computing.{computing}
use Rattle.commit_examples.proofs.rules.bad_names.Goals as goal

pub returns-clause-told : goal.returns-clause-told
unfolding computing
returns-clause-told c = refl

pub returns-clause-dropped : goal.returns-clause-dropped
unfolding computing
returns-clause-dropped c = refl
