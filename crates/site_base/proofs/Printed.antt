-- What is printed of a number is read back.
use Rattle.std.proofs.Common.{◌≡◌, ℕ, ◌+◌, ◌*◌, ◌/◌, ◌%◌, ◌^◌, ◌<◌, ◌≤◌, ◌==◌, Bool, true, false, List, [], ◌∷◌, ◌++◌, append-nil, length, arith, ap, sym, ◌∙◌, refl, Some, ℤ, pos, negsuc, ◌≤ℤ◌, FitsSigned, w64, if◌then◌else◌}
use Rattle.std.proofs.lemmas.Bool.Decides.{nat_tests}
use Rattle.std.proofs.lemmas.Fmt.{decimal_is_IsNumeral}
use Rattle.std.proofs.lemmas.Int.{ints}
use Rattle.std.specs.Char.{digit_value}
use Rattle.std.specs.Fmt.{decimal}
use Rattle.std.specs.Str.Parse.{AllDigits, digits_value}
use Rattle.site_base.specs.Numbers.{amount_text, number_text}
use Rattle.site_base.specs.Reading.{pointed, number_read, Spells}
use Rattle.site_base.proofs.Digits.{value_append}
use Rattle.site_base.proofs.Spelled.{spells_read}

digit_of : (q : ℕ) → q ≤ 9 → digit_value (48 + q) ≡ q
digit_of q h = grind (arith, nat_tests)

digit_low : (q : ℕ) → q ≤ 9 → digit_value (48 + q) < 10
digit_low q h = grind (arith, nat_tests)

-- the digits behind the point
one_digit : (q f : ℕ) → q ≤ 9 → f ≡ q * 100 → f * 10 ^ 1 ≡ digits_value 10 ((48 + q) ∷ []) * 1000
one_digit q f h e = omega (arith, digit_of q h)

two_digits : (p q f : ℕ) → p ≤ 9 → q ≤ 9 → f ≡ p * 100 + q * 10 → f * 10 ^ 2 ≡ digits_value 10 ((48 + p) ∷ (48 + q) ∷ []) * 1000
two_digits p q f h i e = omega (arith, digit_of p h, digit_of q i)

three_digits : (p q r f : ℕ) → p ≤ 9 → q ≤ 9 → r ≤ 9 → f ≡ p * 100 + q * 10 + r → f * 10 ^ 3 ≡ digits_value 10 ((48 + p) ∷ (48 + q) ∷ (48 + r) ∷ []) * 1000
three_digits p q r f h i j e = omega (arith, digit_of p h, digit_of q i, digit_of r j)

fraction_case : (f : ℕ) → f < 1000 → (none : Bool) → (f == 0) ≡ none → (tens : Bool) → (f % 100 == 0) ≡ tens → (units : Bool) → (f % 10 == 0) ≡ units
    → (behind : List ℕ)
    × ((if none then [] else if tens then 46 ∷ (48 + f / 100) ∷ [] else if units then 46 ∷ (48 + f / 100) ∷ (48 + f / 10 % 10) ∷ [] else 46 ∷ (48 + f / 100) ∷ (48 + f / 10 % 10) ∷ (48 + f % 10) ∷ []) ≡ pointed behind)
    × AllDigits 10 behind × (f * 10 ^ length behind ≡ digits_value 10 behind * 1000)
fraction_case f l true a tens b units c = ([], refl, tt, let zero : f ≡ 0 = grind (arith, nat_tests) in omega (arith, zero))
fraction_case f l false a true b units c =
    let z : f % 100 ≡ 0 = grind (arith, nat_tests) in
    ((48 + f / 100) ∷ [], refl, (digit_low (f / 100) (omega arith), tt), one_digit (f / 100) f (omega arith) (omega (arith, z)))
fraction_case f l false a false b true c =
    let z : f % 10 ≡ 0 = grind (arith, nat_tests) in
    ((48 + f / 100) ∷ (48 + f / 10 % 10) ∷ [], refl, (digit_low (f / 100) (omega arith), (digit_low (f / 10 % 10) (omega arith), tt)), two_digits (f / 100) (f / 10 % 10) f (omega arith) (omega arith) (omega (arith, z)))
fraction_case f l false a false b false c =
    ((48 + f / 100) ∷ (48 + f / 10 % 10) ∷ (48 + f % 10) ∷ [], refl, (digit_low (f / 100) (omega arith), (digit_low (f / 10 % 10) (omega arith), (digit_low (f % 10) (omega arith), tt))), three_digits (f / 100) (f / 10 % 10) (f % 10) f (omega arith) (omega arith) (omega arith) (omega arith))

amount_step : (n f q b p : ℕ) → f ≡ n % 1000 → q ≡ n / 1000 → f * p ≡ b * 1000 → n * p ≡ (q * p + b) * 1000
amount_step n f q b p e g h =
    let n_is : n ≡ q * 1000 + f = omega (arith, e, g) in
    let k : n * p ≡ (q * 1000 + f) * p = ap (λ z. z * p) n_is in
    omega (arith, k, h)

amount_spells : (n : ℕ) → n < 2 ^ 63 → Spells (amount_text n) (pos n)
amount_spells n small =
    let c = fraction_case (n % 1000) (omega arith) (n % 1000 == 0) refl (n % 1000 % 100 == 0) refl (n % 1000 % 10 == 0) refl in
    let d = decimal_is_IsNumeral (n / 1000) (omega arith) in
    let value : digits_value 10 (decimal (n / 1000) ++ c.0) ≡ n / 1000 * 10 ^ length c.0 + digits_value 10 c.0 =
    value_append (decimal (n / 1000)) c.0 ∙ ap (λ q. q * 10 ^ length c.0 + digits_value 10 c.0) d.1 in (
      decimal (n / 1000),
      c.0,
      [],
      1000,
      record { spelled = ap (λ t. decimal (n / 1000) ++ t) (c.1 ∙ sym (append-nil (pointed c.0))); digits = d.0; more_digits = c.2 },
      refl,
      amount_step n (n % 1000) (n / 1000) (digits_value 10 c.0) (10 ^ length c.0) refl refl c.3 ∙ ap (λ v. v * 1000) (sym value),
    )

pub read_back : (z : ℤ) → FitsSigned w64 z → pos 0 ≤ℤ z → number_read (number_text z) ≡ Some z
read_back (pos n) fits h = spells_read (amount_text n) n (omega (arith, ints)) (amount_spells n (omega (arith, ints)))
read_back (negsuc n) fits h = absurd (omega (arith, ints))
