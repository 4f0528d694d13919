use Rattle.std.proofs.Common.{arith}
use Rattle.dsl_lexer.specs.declared.sign.Sign.TheVariants as signs
use Rattle.dsl_grammar.proofs.Shorter.{sign_shorter}
use Rattle.dsl_parts.proofs.functions.params.Goals as goal

pub names-requires : goal.names-requires
names-requires c =
    let x = sign_shorter signs.OpenParen _ c.args.tokens.now c.in_ok-inner.inner.now c.in_ok-inner.ensures in
    omega (arith, x, c.requires)
