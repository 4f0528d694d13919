-- The print of a number that some text stands for stands for that number.
use Rattle.std.proofs.Common.{◌≡◌, ℕ, ℤ, pos, negsuc, ◌*◌, ◌/◌, ◌%◌, ◌^◌, ◌<◌, ◌==◌, List, [], ◌++◌, length, take, drop, Bool, true, false, cond, ◌&&◌, Option, Some, None, refl, sym, ap, ◌∙◌, subst, append-nil, arith}
use Rattle.std.proofs.lemmas.Bool.Decides.{nat_tests}
use Rattle.std.proofs.lemmas.Int.{ints}
use Rattle.std.proofs.lemmas.Str.{IsUtf8-from_ascii}
use Rattle.std.specs.Char.{is_ascii_digit}
use Rattle.std.specs.List.{list_all, prefix_len, take_while}
use Rattle.std.specs.Str.{IsUtf8, IsAscii}
use Rattle.std.specs.Str.Parse.{digits_value}
use Rattle.site_base.specs.Numbers.{number_text, in_range, ranged}
use Rattle.site_base.specs.Reading.{unit_size, pointed, digits_behind, scaled, number_read, Spells}
use Rattle.site_base.proofs.Front.{read_empty, read_some, read_none}
use Rattle.site_base.proofs.Scaled.{none_some}
use Rattle.site_base.proofs.Spelled.{read_spells}
use Rattle.site_base.proofs.Printed.{read_back}
use Rattle.dsl_lexer.specs.Letters.{follows, goes_on}
use Rattle.dsl_lexer.specs.Steps.{number_len}
use Rattle.dsl_lexer.specs.Tokens.{begins_fraction, ends_number}
use Rattle.dsl_lexer.proofs.Bytes.{both, not_false, take_front}
use Rattle.dsl_lexer.proofs.NumberLaws.{number_complete}
use Rattle.dsl_lexer.proofs.StepReads.{numeral_starts}
use Rattle.dsl_lexer.proofs.Texts.{number_ascii}
use Rattle.dsl_print.proofs.Good.{IsAmount}

-- a number that is in range
ranged_range : (w z : ℤ) → ranged w ≡ Some z → in_range z ≡ true
ranged_range w z e = by (in_range w) refl e
  where
    by : (t : Bool) → in_range w ≡ t → cond t (Some w) None ≡ Some z → in_range z ≡ true
    by true r e = let same : w ≡ z = cc in ap in_range (sym same) ∙ r
    by false r e = cc

-- what the digits make, times the unit, is in range
scaled_range : (whole behind : List ℕ) (size : ℕ) (z : ℤ) → scaled whole behind size ≡ Some z → in_range z ≡ true
scaled_range whole behind size z e = by (digits_value 10 (whole ++ behind) * size % 10 ^ length behind == 0) e
  where
    by : (t : Bool) → cond t (ranged (pos (digits_value 10 (whole ++ behind) * size / 10 ^ length behind))) None ≡ Some z → in_range z ≡ true
    by true e = ranged_range (pos (digits_value 10 (whole ++ behind) * size / 10 ^ length behind)) z e
    by false e = cc

-- so what a text stands for is in range
read_range : (text : List ℕ) (z : ℤ) → number_read text ≡ Some z → in_range z ≡ true
read_range text z e = digits _ refl
  where
    unit : (length (take_while is_ascii_digit text) == 0) ≡ false → (o : Option ℕ)
        → (let rest = drop (prefix_len is_ascii_digit text) text in unit_size (drop (length (pointed (digits_behind rest))) rest) ≡ o) → in_range z ≡ true
    unit w None u = absurd (none_some z (sym (read_none text _ _ _ _ refl refl refl refl w u) ∙ e))
    unit w (Some size) u = scaled_range (take_while is_ascii_digit text) (digits_behind (drop (prefix_len is_ascii_digit text) text)) size z (sym (read_some text _ _ _ _ size refl refl refl refl w u) ∙ e)

    digits : (t : Bool) → (length (take_while is_ascii_digit text) == 0) ≡ t → in_range z ≡ true
    digits true w = absurd (none_some z (sym (read_empty text _ _ _ _ refl refl refl refl w) ∙ e))
    digits false w = unit w _ refl

-- and it is printed so that it is read back
back : (text : List ℕ) (z : ℤ) → Spells text z → in_range z ≡ true → number_read (number_text z) ≡ Some z
back text (pos n) s r =
    let small : n < 2 ^ 63 = grind (arith, nat_tests) in
    read_back (pos n) (omega (arith, ints)) (omega (arith, ints))
back text (negsuc n) s r = absurd s

-- the print of such a number is read as the number
pub amount_read : (z : ℤ) → IsAmount z → number_read (number_text z) ≡ Some z
amount_read z h = back h.0 z (read_spells h.0 z h.1) (read_range h.0 z h.1)

-- nothing holds with what doesn't
none_behind : (t : Bool) → (t && false) ≡ false
none_behind true = refl
none_behind false = refl

-- it ends before a text that begins with no letter, digit or `_`, and with no fraction
pub amount_ends : (z : ℤ) (rest : List ℕ) → IsAmount z → goes_on rest ≡ false → begins_fraction rest ≡ false → ends_number (number_text z) rest ≡ true
amount_ends z rest h g f = both _ _ (not_false _ g) (not_false _ (ap (λ t. list_all is_ascii_digit (number_text z) && t) f ∙ none_behind (list_all is_ascii_digit (number_text z))))

-- it is UTF-8
pub amount_utf8 : (z : ℤ) → IsAmount z → IsUtf8 (number_text z)
amount_utf8 z h =
    let text : List ℕ = number_text z in
    let len : number_len text ≡ length text = ap number_len (sym (append-nil text)) ∙ number_complete text [] z (amount_read z h) (amount_ends z [] h refl refl) in
    let all : take (number_len text) text ≡ text = ap (take (number_len text)) (sym (append-nil text)) ∙ take_front text [] (number_len text) (sym len) in
    IsUtf8-from_ascii text (subst IsAscii all (number_ascii text))

-- it begins with a digit
pub amount_digit : (z : ℤ) → IsAmount z → follows is_ascii_digit (number_text z) ≡ true
amount_digit z h = by z (number_text z) (read_spells (number_text z) z (amount_read z h))
  where
    by : (z : ℤ) (text : List ℕ) → Spells text z → follows is_ascii_digit text ≡ true
    by (pos n) text s = subst (λ t. follows is_ascii_digit t ≡ true) (sym s.4.spelled) (numeral_starts s.0 _ s.4.digits.0 s.4.digits.1)
    by (negsuc n) text s = absurd s
