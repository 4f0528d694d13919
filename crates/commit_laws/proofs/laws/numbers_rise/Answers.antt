use Rattle.commit_laws.proofs.Numbers.{rises_throughout}
use Rattle.commit_laws.proofs.laws.numbers_rise.Goals as goal

pub returns : goal.returns
returns c = rises_throughout
