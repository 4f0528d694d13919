use Rattle.std.proofs.Common.{◌≡◌, ℕ, Option, true, false, List, MatchOption, ◌∙◌, sym, subst}
use Rattle.std.specs.Str.Parse.{digits_value, ParsesUnsigned}
use Rattle.site_text.specs.ScriptReading.{is_decimal}
use Rattle.site_text.proofs.DecimalLaws.{decimal_parsed}
use Rattle.site_text.proofs.decimals.decimal_value.Goals as goal

pub returns : goal.returns
returns c =
    let digits : List ℕ = c.args.digits.now in
    let most : ℕ = c.args.most in
    let read : ParsesUnsigned 64 10 digits c.parse.result = subst (λ ds. ParsesUnsigned 64 10 ds c.parse.result) c.digits_text.ensures c.parse.ensures.value.0 in
    let P : Option ℕ → Type 0 = λ r. MatchOption r (is_decimal most digits ≡ false) (λ n. (is_decimal most digits ≡ true) × (n ≡ digits_value 10 digits)) in
    subst P (sym c.ok.ensures.value) (decimal_parsed most digits c.parse.result c.requires.few c.requires.digits (sym c.is_decimal.ensures ∙ c.if-not-is_decimal.false) read)
