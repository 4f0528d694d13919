use Rattle.std.proofs.Common.{length, ap, sym, ◌∙◌, ◌++◌, rules}
use Rattle.std.specs.Prelude.{encode_utf8}
use Rattle.dsl_lib.proofs.Chars.{no_chars, chars_before_char}
use Rattle.dsl_lib.proofs.characters.last.Goals as goal

pub returns-in_err-c : goal.returns-in_err-c
returns-in_err-c c = rw c.from_residual.ensures (no_chars c.args.text.now (ap length (sym c.chars-characters.ensures.rest) ∙ c.in_err-c.ensures.steps.0))

pub returns : goal.returns
returns c = chars_before_char c.args.text.now c.as_str.result.now c.in_ok-c.c (search rules) c.as_str.utf8 (sym c.chars-characters.ensures.rest ∙ c.in_ok-c.ensures.steps ∙ ap (λ x. x ++ encode_utf8 c.in_ok-c.c) (sym c.as_str.ensures))
