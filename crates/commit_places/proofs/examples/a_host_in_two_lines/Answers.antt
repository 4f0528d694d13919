use Rattle.std.proofs.Common.{refl}
use Rattle.commit_places.proofs.Computing.{computing}
use Rattle.commit_places.proofs.examples.a_host_in_two_lines.Goals as goal

pub returns-clause-name : goal.returns-clause-name
unfolding computing
returns-clause-name c = refl

pub returns-clause-lower_name : goal.returns-clause-lower_name
unfolding computing
returns-clause-lower_name c = refl

pub returns-clause-missing : goal.returns-clause-missing
unfolding computing
returns-clause-missing c = refl

pub returns-clause-lower_missing : goal.returns-clause-lower_missing
unfolding computing
returns-clause-lower_missing c = refl
