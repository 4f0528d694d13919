use Rattle.std.proofs.Common.{◌≡◌, ◌<◌, ◌&&◌, ◌++◌, ◌∷◌, ℕ, zero, suc, nat_lt, Bool, true, false, List, [], codes, refl, ap, arith, lit<}
use Rattle.std.proofs.lemmas.Bool.Decides.{nat_tests}
use Rattle.std.proofs.lemmas.Fmt.{decimal_digit}
use Rattle.std.proofs.lemmas.Str.{IsUtf8-from_ascii}
use Rattle.std.specs.List.{list_all, slice_index}
use Rattle.std.specs.Str.{IsUtf8}
use Rattle.event_text.specs.Numbers.{number_in}
use Rattle.site_query.specs.Example.{lines, limit}
use Rattle.site_query.specs.Lines.{lines_text}
use Rattle.site_query.specs.Names.{column_named, op_named}
use Rattle.site_query.specs.Reading.{line_read}
use Rattle.site_query.proofs.QueryLaws.{text_of_query}
use Rattle.site_query.proofs.examples.services_that_are_not_ok.Goals as goal

-- what is ASCII is UTF-8
first : (s t : Bool) → (s && t) ≡ true → s ≡ true
first true t e = refl
first false t e = cc

rest : (s t : Bool) → (s && t) ≡ true → t ≡ true
rest true t e = e
rest false t e = cc

ascii : (bs : List ℕ) → list_all (λ b. nat_lt b 128) bs ≡ true → (i : ℕ) → slice_index bs i < 128
ascii [] e i = lit< tt
ascii (b ∷ bs) e zero = let low : nat_lt b 128 ≡ true = first (nat_lt b 128) (list_all (λ c. nat_lt c 128) bs) e in grind (arith, nat_tests, low)
ascii (b ∷ bs) e (suc i) = ascii bs (rest (nat_lt b 128) (list_all (λ c. nat_lt c 128) bs) e) i

text : (bs : List ℕ) → list_all (λ b. nat_lt b 128) bs ≡ true → IsUtf8 bs
text bs e = IsUtf8-from_ascii bs (ascii bs e)

pub returns-clause-read : goal.returns-clause-read
unfolding line_read column_named op_named number_in
returns-clause-read c = text_of_query (lines_text lines) (text (lines_text lines) refl)

pub returns-clause-limited : goal.returns-clause-limited
unfolding line_read column_named op_named number_in
returns-clause-limited c = text_of_query (lines_text (lines ++ limit)) (text (lines_text (lines ++ limit)) refl)

pub returns-clause-twice : goal.returns-clause-twice
unfolding line_read column_named op_named number_in
returns-clause-twice c = text_of_query (lines_text (lines ++ limit ++ limit)) (text (lines_text (lines ++ limit ++ limit)) refl)

pub returns-clause-unended : goal.returns-clause-unended
unfolding line_read column_named op_named number_in
returns-clause-unended c = text_of_query (lines_text lines ++ codes "Limit: 0") (text (lines_text lines ++ codes "Limit: 0") refl)

pub returns-clause-empty : goal.returns-clause-empty
returns-clause-empty c = text_of_query [] (text [] refl)

pub returns-clause-answer : goal.returns-clause-answer
returns-clause-answer c = ap (λ d. 34 ∷ 104 ∷ 33 ∷ 115 ∷ 34 ∷ 59 ∷ (d ++ 10 ∷ [] ++ [])) (decimal_digit 2 (lit< tt))
