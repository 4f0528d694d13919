use Rattle.std.proofs.Common.{◌∙◌, arith}
use Rattle.dsl_lexer.proofs.Utf8Laws.{byte_test, text_test}
use Rattle.dsl_lexer.proofs.lexing.is_text.Goals as goal

pub returns-in-len1 : goal.returns-in-len1
returns-in-len1 c = c.is_ascii.ensures ∙ byte_test c.args.passed.now (omega (arith, c.in-len1.len_at_least, c.in-len1.len_below))

pub returns-in_default : goal.returns-in_default
returns-in_default c = c.is_ok.ensures.value ∙ text_test c.args.passed.now c.from_utf8.result (λ a h. h.1) (λ e h. h.0) c.from_utf8.ensures.cases
