use Rattle.dsl_lexer.proofs.FileTokens.{has_tokens, has_fault, read_tokens, read_whole, read_fault}
use Rattle.dsl_lexer.proofs.lexing.what_is_read_are_the_tokens.Goals as goal

pub returns-clause-tokens : goal.returns-clause-tokens
returns-clause-tokens c = has_tokens

pub returns-clause-read : goal.returns-clause-read
returns-clause-read c = read_tokens

pub returns-clause-whole : goal.returns-clause-whole
returns-clause-whole c = read_whole

pub returns-clause-fault : goal.returns-clause-fault
returns-clause-fault c = has_fault

pub returns-clause-stopped : goal.returns-clause-stopped
returns-clause-stopped c = read_fault
