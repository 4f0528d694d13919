use Rattle.dsl_grammar.proofs.HeadLaws.{heads_are}
use Rattle.dsl_grammar.proofs.laws.heads_stand_once_in_either_order.Goals as goal

pub returns : goal.returns
returns c = heads_are
