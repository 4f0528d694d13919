use Rattle.std.proofs.Common.{subst, sym, ◌∙◌, ap, take}
use Rattle.std.specs.Str.{IsAscii}
use Rattle.dsl_lexer.proofs.Texts.{number_ascii}
use Rattle.dsl_lexer.proofs.stepping.number.Goals as goal

pub ascii_text-requires : goal.ascii_text-requires
ascii_text-requires c = subst IsAscii (sym (c.split_at.ensures.front ∙ ap (λ n. take n c.args.bytes.now) c.number_len-len.ensures.value)) (number_ascii c.args.bytes.now)
