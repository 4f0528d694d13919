use Rattle.dsl_lib.proofs.Replaced.{replaced_is, replaced_only}
use Rattle.dsl_lib.proofs.laws.parts_are_replaced_from_left_to_right.Goals as goal

pub returns-clause-is : goal.returns-clause-is
returns-clause-is c = replaced_is

pub returns-clause-only : goal.returns-clause-only
returns-clause-only c = replaced_only
