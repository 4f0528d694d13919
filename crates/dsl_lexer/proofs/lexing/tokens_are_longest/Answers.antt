use Rattle.dsl_lexer.proofs.Longest.{longest}
use Rattle.dsl_lexer.proofs.lexing.tokens_are_longest.Goals as goal

pub returns : goal.returns
returns c = longest
