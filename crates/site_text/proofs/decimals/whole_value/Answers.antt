use Rattle.std.proofs.Common.{◌∙◌, List, ℕ, sym, subst}
use Rattle.std.specs.Str.Parse.{ParsesUnsigned}
use Rattle.site_text.proofs.WholeLaws.{whole_parsed}
use Rattle.site_text.proofs.decimals.whole_value.Goals as goal

pub returns : goal.returns
returns c =
    let digits : List ℕ = c.args.digits.now in
    let read : ParsesUnsigned 64 10 digits c.parse.result = subst (λ ds. ParsesUnsigned 64 10 ds c.parse.result) c.digits_text.ensures c.parse.ensures.value.0 in
    c.ok.ensures.value ∙ whole_parsed digits c.parse.result c.requires (sym c.is_decimal.ensures ∙ c.if-not-is_decimal.false) read
