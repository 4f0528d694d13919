use Rattle.std.proofs.Common.{◌≡◌, sym, subst, ◌∙◌}
use Rattle.std.specs.Result.{IfOk}
use Rattle.dsl_lexer.proofs.PlainStrings.{plain_string}
use Rattle.dsl_lexer.proofs.strings.read_string.Goals as goal

pub returns : goal.returns
returns c =
    subst (λ x. IfOk c.copied_text.result (λ s. s ≡ x))
    (plain_string c.args.bytes.now c.split_at.result.0.now c.split_at.result.1.now c.plain_len-len.result c.plain_len-len.ensures.value c.split_at.ensures.front c.split_at.ensures.back (sym c.at_quote.ensures ∙ c.if-not-at_quote.false))
    c.copied_text.ensures
