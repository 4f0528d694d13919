use Rattle.std.proofs.Common.{[], ◌∷◌, arith}
use Rattle.dsl_lexer.specs.declared.word.Word.TheVariants as words
use Rattle.dsl_grammar.specs.Codes.{string_sort}
use Rattle.dsl_grammar.specs.Grammar.{located}
use Rattle.dsl_grammar.specs.Terms.{text}
use Rattle.dsl_grammar.proofs.Shorter.{one_shorter, word_shorter}
use Rattle.dsl_statements.proofs.inclusions.included_all.Goals as goal

pub pattern-requires : goal.pattern-requires
pattern-requires c =
    let x = word_shorter words.IncludeRecursive _ c.args.tokens.now c.in_ok-begin.begin.now c.in_ok-begin.ensures in
    let y = one_shorter (string_sort ∷ []) (λ t. located t.place (text t)) _ c.in_ok-begin.begin.now c.in_ok-folder.begin.now c.in_ok-folder.ensures in
    omega (arith, x, y, c.requires)
