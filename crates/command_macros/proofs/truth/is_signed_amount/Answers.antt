use Rattle.std.proofs.Common.{sym, ap, ◌∙◌, lit<, None}
use Rattle.std.proofs.lemmas.Str.Pattern.{strip_prefix_char}
use Rattle.command_macros.specs.Truth.{is_other_than_zero}
use Rattle.command_macros.proofs.SignLaws.{without_sign}
use Rattle.command_macros.proofs.truth.is_signed_amount.Goals as goal

pub returns-in-None : goal.returns-in-None
returns-in-None c =
    c.is_other_than_zero-in-None.ensures
    ∙ (ap is_other_than_zero c.read_amount-in-None.ensures ∙ sym (without_sign c.args.text.now (strip_prefix_char 45 c.args.text.now None c.in-None.ensures.cases (lit< tt))))
