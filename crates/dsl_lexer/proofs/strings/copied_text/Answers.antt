use Rattle.std.proofs.Common.{cond, sym, ap, ◌∙◌}
use Rattle.std.proofs.lemmas.Str.{is_utf8-from_IsUtf8}
use Rattle.dsl_lexer.specs.declared.token_kind.TokenKind.TheVariants as kind
use Rattle.dsl_lexer.specs.declared.stepping.Step.TheVariants as step
use Rattle.dsl_lexer.proofs.Texts.{not_utf8}
use Rattle.dsl_lexer.proofs.strings.copied_text.Goals as goal

pub returns-in_default : goal.returns-in_default
returns-in_default c =
    sym (ap (λ t. cond t (step.Taken c.args.len (kind.Str c.args.text.now)) step.Fault) (not_utf8 c.args.text.now (c.in_default.ensures {u = tt}).cases.0))

pub returns : goal.returns
returns c =
    let told = (c.in-Ok.ensures {u = tt}).cases in
    ap (λ x. step.Taken c.args.len (kind.Str x)) (c.in_ok-text.ensures {u = tt} ∙ told.0)
    ∙ sym (ap (λ t. cond t (step.Taken c.args.len (kind.Str c.args.text.now)) step.Fault) (is_utf8-from_IsUtf8 c.args.text.now told.1))
