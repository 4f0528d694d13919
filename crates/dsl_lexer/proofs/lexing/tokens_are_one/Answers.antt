use Rattle.dsl_lexer.proofs.ListLaws.{one_list, no_fault_too, one_fault}
use Rattle.dsl_lexer.proofs.lexing.tokens_are_one.Goals as goal

pub returns-clause-one : goal.returns-clause-one
returns-clause-one c = one_list

pub returns-clause-none : goal.returns-clause-none
returns-clause-none c = no_fault_too

pub returns-clause-one_fault : goal.returns-clause-one_fault
returns-clause-one_fault c = one_fault
