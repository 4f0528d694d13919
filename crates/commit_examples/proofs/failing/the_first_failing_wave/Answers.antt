use Rattle.std.proofs.Common.{refl}
use Rattle.commit_examples.proofs.Computing.{computing}
use Rattle.commit_examples.proofs.failing.the_first_failing_wave.Goals as goal

pub returns : goal.returns
unfolding computing
returns c = λ phases last. refl
