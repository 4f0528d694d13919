use Rattle.dsl_grammar.proofs.ArrayLaws.{elements_are}
use Rattle.dsl_grammar.proofs.laws.arrays_are_expressions_between_commas.Goals as goal

pub returns : goal.returns
returns c = elements_are
