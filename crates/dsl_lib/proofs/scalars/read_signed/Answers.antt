use Rattle.std.proofs.Common.{sym, ◌∙◌, lit<, None}
use Rattle.std.proofs.lemmas.Str.Pattern.{strip_prefix_char}
use Rattle.dsl_lib.proofs.Signs.{without_sign}
use Rattle.dsl_lib.proofs.scalars.read_signed.Goals as goal

pub returns-in-None : goal.returns-in-None
returns-in-None c = c.read_unsigned-in-None.ensures ∙ sym (without_sign c.args.text.now (strip_prefix_char 45 c.args.text.now None c.in-None.ensures.cases (lit< tt)))
