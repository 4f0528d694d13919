use Rattle.std.proofs.Common.{refl}
use Rattle.commit_examples.proofs.Computing.{computing}
use Rattle.commit_examples.proofs.items.attributes_of_a_body.Goals as goal

pub returns : goal.returns
unfolding computing
returns c = refl
