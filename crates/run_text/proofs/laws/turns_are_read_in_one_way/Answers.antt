use Rattle.run_text.proofs.ReadLaws.{turns_are_read, turns_are}
use Rattle.run_text.proofs.laws.turns_are_read_in_one_way.Goals as goal

pub returns-clause-is : goal.returns-clause-is
returns-clause-is c = turns_are_read

pub returns-clause-only : goal.returns-clause-only
returns-clause-only c = turns_are
