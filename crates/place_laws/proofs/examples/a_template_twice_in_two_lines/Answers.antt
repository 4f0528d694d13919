use Rattle.std.proofs.Common.{refl}
use Rattle.place_laws.proofs.Computing.{computing}
use Rattle.place_laws.proofs.examples.a_template_twice_in_two_lines.Goals as goal

pub returns-clause-first : goal.returns-clause-first
unfolding computing
returns-clause-first c = refl

pub returns-clause-fifth : goal.returns-clause-fifth
unfolding computing
returns-clause-fifth c = refl
