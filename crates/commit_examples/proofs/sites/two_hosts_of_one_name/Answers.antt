use Rattle.std.proofs.Common.{refl}
use Rattle.commit_examples.proofs.Computing.{computing}
use Rattle.commit_examples.proofs.sites.two_hosts_of_one_name.Goals as goal

pub returns : goal.returns
unfolding computing
returns c = refl
