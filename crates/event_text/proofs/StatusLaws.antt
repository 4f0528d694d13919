-- What `parse` reads as a number.
use Rattle.std.proofs.Common.{◌≡◌, ℕ, ◌<◌, ◌≤◌, ◌^◌, Bool, true, false, cond, nat_le, ◌&&◌, List, length, refl, sym, ap, ◌∙◌, arith, Some, None, Result, Ok, Err}
use Rattle.std.proofs.lemmas.Bool.Decides.{nat_tests}
use Rattle.std.proofs.lemmas.Str.Parse.{IsNumeralModel, numerals_by_value, tells_digits, parse_digits}
use Rattle.std.specs.Result.{OkIff}
use Rattle.std.specs.Str.Parse.{AllDigits, digits_value, ParsesUnsigned}
use Rattle.event_text.specs.Numbers.{IsNumber, is_number, number_in}
use Rattle.event_text.specs.declared.limit.Limit.{Limit}
use Rattle.event_text.proofs.NumberLaws.{number_is}

own : IsNumeralModel (AllDigits 10) (digits_value 10)
own = numerals_by_value (AllDigits 10) tells_digits

parsed : {E : Type 0} (l : Limit) (text : List ℕ) (r : Result ℕ E) → is_number l.digits text ≡ true → ParsesUnsigned 64 10 text r → OkIff r ((0 < length text) × (digits_value 10 text < 2 ^ 64)) (digits_value 10 text)
parsed l text r e h = let number : IsNumber l.digits text = number_is l.digits text e in parse_digits own 64 text r h number.digits.1

pub number_parsed : {E : Type 0} (l : Limit) (text : List ℕ) (r : Result ℕ E) → is_number l.digits text ≡ true → ParsesUnsigned 64 10 text r → (x : ℕ) → r ≡ Ok x → cond (nat_le x l.most) (Some x) None ≡ number_in l text
unfolding number_in
number_parsed {E = E} l text r e h x is = by r (parsed l text r e h) is
  where
    by : (r : Result ℕ E) → OkIff r ((0 < length text) × (digits_value 10 text < 2 ^ 64)) (digits_value 10 text) → r ≡ Ok x → cond (nat_le x l.most) (Some x) None ≡ cond (is_number l.digits text && nat_le (digits_value 10 text) l.most) (Some (digits_value 10 text)) None
    by (Ok y) value same =
        let is_x : y ≡ x = cc in
        ap (λ n. cond (nat_le n l.most) (Some n) None) (sym is_x ∙ value.1)
        ∙ sym (ap (λ t. cond (t && nat_le (digits_value 10 text) l.most) (Some (digits_value 10 text)) None) e)
    by (Err d) value same = cc

pub number_unparsed : {E : Type 0} (l : Limit) (text : List ℕ) (r : Result ℕ E) → l.most < 2 ^ 64 → is_number l.digits text ≡ true → ParsesUnsigned 64 10 text r → (d : E) → r ≡ Err d → None ≡ number_in l text
unfolding number_in
number_unparsed {E = E} l text r small e h d is =
    sym (ap (λ t. cond (t && nat_le (digits_value 10 text) l.most) (Some (digits_value 10 text)) None) e
    ∙ ap (λ t. cond t (Some (digits_value 10 text)) None) (great (digits_value 10 text) l.most small (by r (parsed l text r e h) is)))
  where
    number : IsNumber l.digits text
    number = number_is l.digits text e

    by : (r : Result ℕ E) → OkIff r ((0 < length text) × (digits_value 10 text < 2 ^ 64)) (digits_value 10 text) → r ≡ Err d → digits_value 10 text < 2 ^ 64 → ⊥
    by (Ok y) value same lt = absurd cc
    by (Err f) lacks same lt = lacks (number.digits.0, lt)

    great : (n m : ℕ) → m < 2 ^ 64 → (n < 2 ^ 64 → ⊥) → nat_le n m ≡ false
    great n m small high = tested (nat_le n m) refl
      where
        tested : (t : Bool) → nat_le n m ≡ t → nat_le n m ≡ false
        tested true q = let le : n ≤ m = grind (arith, nat_tests) in absurd (high (omega arith))
        tested false q = q

pub no_digits : (l : Limit) (text : List ℕ) → is_number l.digits text ≡ false → None ≡ number_in l text
unfolding number_in
no_digits l text e = sym (ap (λ t. cond (t && nat_le (digits_value 10 text) l.most) (Some (digits_value 10 text)) None) e)
