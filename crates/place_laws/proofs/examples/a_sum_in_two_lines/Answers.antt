use Rattle.std.proofs.Common.{refl}
use Rattle.place_laws.proofs.Computing.{computing}
use Rattle.place_laws.proofs.examples.a_sum_in_two_lines.Goals as goal

pub returns-clause-third : goal.returns-clause-third
unfolding computing
returns-clause-third c = refl

pub returns-clause-ninth : goal.returns-clause-ninth
unfolding computing
returns-clause-ninth c = refl

pub returns-clause-third_fault : goal.returns-clause-third_fault
unfolding computing
returns-clause-third_fault c = refl

pub returns-clause-ninth_fault : goal.returns-clause-ninth_fault
unfolding computing
returns-clause-ninth_fault c = refl
