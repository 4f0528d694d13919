use Rattle.dsl_grammar.proofs.Place.{one_tree}
use Rattle.dsl_grammar.proofs.laws.tokens_have_one_tree.Goals as goal

pub returns : goal.returns
returns c = one_tree
