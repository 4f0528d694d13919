use Rattle.std.proofs.Common.{[]}
use Rattle.dsl_lib.proofs.Apart.{distinct_apart, distinct_is}
use Rattle.dsl_lib.proofs.laws.distinct_elements_are_apart.Goals as goal

pub returns-clause-taken : goal.returns-clause-taken
returns-clause-taken c = distinct_is

pub returns-clause-apart : goal.returns-clause-apart
returns-clause-apart c = λ cells vs. distinct_apart cells [] vs tt
