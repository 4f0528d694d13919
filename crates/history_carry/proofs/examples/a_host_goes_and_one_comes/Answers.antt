use Rattle.std.proofs.Common.{refl}
use Rattle.history_carry.proofs.examples.a_host_goes_and_one_comes.Goals as goal

pub returns : goal.returns
returns c = refl
