-- The digits at the front of a text.
use Rattle.std.proofs.Common.{◌≡◌, ℕ, ◌<◌, ◌==◌, Bool, true, false, cond, List, [], ◌∷◌, length, drop, arith, ap, sym, ◌∙◌, refl, subst, Option, Some, None, ℤ, if◌then◌else◌}
use Rattle.std.proofs.lemmas.Bool.Decides.{nat_tests}
use Rattle.std.proofs.lemmas.List.Sums.{take_while-cons}
use Rattle.std.specs.Char.{is_ascii_digit, digit_value}
use Rattle.std.specs.List.{take_while, prefix_len}
use Rattle.std.specs.Str.Parse.{AllDigits}
use Rattle.site_base.specs.Reading.{digits_behind, pointed, unit_size, scaled, number_read}
use Rattle.std.specs.Option.{option_and_then}

pub digit_below : (b : ℕ) → is_ascii_digit b ≡ true → digit_value b < 10
digit_below b e = grind (arith, nat_tests)

pub below_digit : (b : ℕ) → digit_value b < 10 → is_ascii_digit b ≡ true
below_digit b e = grind (arith, nat_tests)

front_step : (b : ℕ) (bs : List ℕ) → AllDigits 10 (take_while is_ascii_digit bs) → (t : Bool) → is_ascii_digit b ≡ t → AllDigits 10 (cond t (b ∷ take_while is_ascii_digit bs) [])
front_step b bs h true e = (digit_below b e, h)
front_step b bs h false e = tt

pub front_digits : (text : List ℕ) → AllDigits 10 (take_while is_ascii_digit text)
front_digits [] = tt
front_digits (b ∷ bs) = subst (AllDigits 10) (sym (take_while-cons is_ascii_digit b bs)) (front_step b bs (front_digits bs) (is_ascii_digit b) refl)

behind_step : (b : ℕ) (bs : List ℕ) (t : Bool) → AllDigits 10 (if t then take_while is_ascii_digit bs else [])
behind_step b bs true = front_digits bs
behind_step b bs false = tt

pub behind_digits : (text : List ℕ) → AllDigits 10 (digits_behind text)
behind_digits [] = tt
behind_digits (b ∷ bs) = behind_step b bs (b == 46)

-- What is read, by the parts into which a text is split.
parts : List ℕ → List ℕ → Option ℕ → Option ℤ
parts whole behind size = if length whole == 0 then None else option_and_then (λ s. scaled whole behind s) size

read_is : (text whole rest behind unit : List ℕ) → whole ≡ take_while is_ascii_digit text → rest ≡ drop (prefix_len is_ascii_digit text) text → behind ≡ digits_behind rest → unit ≡ drop (length (pointed (digits_behind rest))) rest → number_read text ≡ parts whole behind (unit_size unit)
unfolding number_read parts
read_is text whole rest behind unit w r b u = rw (u, b, r, w) refl

pub read_empty : (text whole rest behind unit : List ℕ) → whole ≡ take_while is_ascii_digit text → rest ≡ drop (prefix_len is_ascii_digit text) text → behind ≡ digits_behind rest → unit ≡ drop (length (pointed (digits_behind rest))) rest → (length whole == 0) ≡ true → number_read text ≡ None
unfolding parts
read_empty text whole rest behind unit w r b u e = read_is text whole rest behind unit w r b u ∙ ap (λ t. if t then None else option_and_then (λ s. scaled whole behind s) (unit_size unit)) e

pub read_some : (text whole rest behind unit : List ℕ) (size : ℕ) → whole ≡ take_while is_ascii_digit text → rest ≡ drop (prefix_len is_ascii_digit text) text → behind ≡ digits_behind rest → unit ≡ drop (length (pointed (digits_behind rest))) rest → (length whole == 0) ≡ false → unit_size unit ≡ Some size → number_read text ≡ scaled whole behind size
unfolding parts
read_some text whole rest behind unit size w r b u e f =
    read_is text whole rest behind unit w r b u
    ∙ ap (λ t. if t then None else option_and_then (λ s. scaled whole behind s) (unit_size unit)) e
    ∙ ap (λ o. option_and_then (λ s. scaled whole behind s) o) f

pub read_none : (text whole rest behind unit : List ℕ) → whole ≡ take_while is_ascii_digit text → rest ≡ drop (prefix_len is_ascii_digit text) text → behind ≡ digits_behind rest → unit ≡ drop (length (pointed (digits_behind rest))) rest → (length whole == 0) ≡ false → unit_size unit ≡ None → number_read text ≡ None
unfolding parts
read_none text whole rest behind unit w r b u e f =
    read_is text whole rest behind unit w r b u
    ∙ ap (λ t. if t then None else option_and_then (λ s. scaled whole behind s) (unit_size unit)) e
    ∙ ap (λ o. option_and_then (λ s. scaled whole behind s) o) f
