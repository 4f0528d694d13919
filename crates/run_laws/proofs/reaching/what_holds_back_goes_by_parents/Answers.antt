use Rattle.depend_graph.proofs.Steps.{reach_step}
use Rattle.run_laws.proofs.Above.{above_is}
use Rattle.run_laws.proofs.reaching.what_holds_back_goes_by_parents.Goals as goal

pub returns-clause-ancestors : goal.returns-clause-ancestors
returns-clause-ancestors c = λ s graph is k p within. above_is s is.has_order k within p

pub returns-clause-reach : goal.returns-clause-reach
returns-clause-reach c = λ o graph is k within. reach_step o is.has_order k within
