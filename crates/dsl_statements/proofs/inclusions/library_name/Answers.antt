use Rattle.std.proofs.Common.{arith}
use Rattle.dsl_lexer.specs.declared.sign.Sign.TheVariants as signs
use Rattle.dsl_grammar.proofs.Shorter.{sign_shorter}
use Rattle.dsl_statements.proofs.inclusions.library_name.Goals as goal

pub dashed_name-requires : goal.dashed_name-requires
dashed_name-requires c =
    let x = sign_shorter signs.Less _ c.args.tokens.now c.in_ok-begin.begin.now c.in_ok-begin.ensures in
    omega (arith, x, c.requires)
