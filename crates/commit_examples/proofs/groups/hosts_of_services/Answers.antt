use Rattle.std.proofs.Common.{refl}
use Rattle.commit_examples.proofs.Computing.{computing}
use Rattle.commit_examples.proofs.groups.hosts_of_services.Goals as goal

pub returns-clause-absent : goal.returns-clause-absent
unfolding computing
returns-clause-absent c = refl

pub returns-clause-undecided : goal.returns-clause-undecided
unfolding computing
returns-clause-undecided c = refl
