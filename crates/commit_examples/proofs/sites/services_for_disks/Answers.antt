use Rattle.std.proofs.Common.{refl}
use Rattle.commit_examples.proofs.Computing.{computing}
use Rattle.commit_examples.proofs.sites.services_for_disks.Goals as goal

pub returns : goal.returns
unfolding computing
returns c = refl
