use Rattle.std.proofs.Common.{arith}
use Rattle.dsl_lexer.specs.declared.word.Word.TheVariants as words
use Rattle.dsl_grammar.proofs.Shorter.{word_shorter}
use Rattle.dsl_statements.proofs.inclusions.included.Goals as goal

pub library_name-requires : goal.library_name-requires
library_name-requires c =
    let x = word_shorter words.Include _ c.args.tokens.now c.in_ok-begin.begin.now c.in_ok-begin.ensures in
    omega (arith, x, c.requires)
