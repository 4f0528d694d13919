use Rattle.std.proofs.Common.{◌≡◌, IfOk, List, ap, subst, sym}
use Rattle.dsl_lexer.specs.Lexing.{Lexed}
use Rattle.dsl_lexer.specs.declared.token.Token.{Token}
use Rattle.dsl_grammar.specs.Files.{file_outcome}
use Rattle.conf_sources.specs.Reading.{Kept, kept_outcome, kept_tokens, kept_bytes}
use Rattle.conf_sources.specs.Views.{kept_view}
use Rattle.conf_sources.proofs.reading.text.Goals as goal

pub returns-in-Ok : goal.returns-in-Ok
unfolding kept_bytes
returns-in-Ok c =
    let P : Lexed → Type 0 = λ l. IfOk c.parsed.result (λ k. kept_view k ≡ kept_tokens c.args.index l) in
    let Q : List Token → Type 0 = λ ts. IfOk c.parsed.result (λ k. kept_view k ≡ kept_outcome c.args.index (file_outcome ts)) in
    subst P (sym (c.what_is_read_are_the_tokens.ensures.tokens c.args.index c.args.bytes.now c.in-Ok.tokens c.in-Ok.ensures.tokens)) (subst Q c.as_slice.ensures c.parsed.ensures)

pub returns-in-Err-Fault : goal.returns-in-Err-Fault
unfolding kept_bytes
returns-in-Err-Fault c =
    let P : Lexed → Type 0 = λ l. IfOk c.broken.result (λ k. kept_view k ≡ kept_tokens c.args.index l) in
    let h = (c.in-Err-Fault.ensures {u = tt}).fault in
    subst P (sym (c.what_is_read_are_the_tokens.ensures.fault c.args.index c.args.bytes.now c.in-Err-Fault.fault.place (rw c.in-Err-Fault.field-0-is at h))) c.broken.ensures
