use Rattle.dsl_lib.proofs.Taken.{none_taken}
use Rattle.dsl_lib.proofs.distinct.Distinct.new.Goals as goal

pub returns-clause-finds : goal.returns-clause-finds
returns-clause-finds c = λ s. none_taken s _ c.new-2.ensures c.new.ensures
