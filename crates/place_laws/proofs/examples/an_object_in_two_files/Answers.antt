use Rattle.std.proofs.Common.{refl}
use Rattle.place_laws.proofs.Computing.{computing}
use Rattle.place_laws.proofs.examples.an_object_in_two_files.Goals as goal

pub returns-clause-own : goal.returns-clause-own
unfolding computing
returns-clause-own c = refl

pub returns-clause-library : goal.returns-clause-library
unfolding computing
returns-clause-library c = refl
