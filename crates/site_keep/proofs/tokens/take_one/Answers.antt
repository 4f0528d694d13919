-- One is written as one digit.
use Rattle.std.proofs.Common.{◌≡◌, ◌∷◌, [], codes, decimal, ap, ◌∙◌, rules, arith, sym}
use Rattle.std.proofs.lemmas.Fmt.{decimal_digit}
use Rattle.json.specs.Token.{number}
use Rattle.site_keep.proofs.tokens.take_one.Goals as goal

one : decimal 1 ≡ codes "1"
one = decimal_digit 1 (omega arith)

pub returns-in-Some-Number : goal.returns-in-Some-Number
returns-in-Some-Number c =
    let token : c.args.reader.now ≡ number c.in-Some-Number.text.now ∷ c.next.new.self = search rules in
    let is : c.in-Some-Number.text.now ≡ codes "1" = search rules in
    token ∙ ap (λ t. number t ∷ c.next.new.self) (is ∙ sym one)
