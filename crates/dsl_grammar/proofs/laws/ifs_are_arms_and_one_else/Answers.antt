use Rattle.dsl_grammar.proofs.ArmLaws.{arms_are}
use Rattle.dsl_grammar.proofs.laws.ifs_are_arms_and_one_else.Goals as goal

pub returns : goal.returns
returns c = arms_are
