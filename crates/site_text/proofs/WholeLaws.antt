-- Numbers of 64 bits, both ways.
use Rattle.std.proofs.Common.{◌≡◌, ℕ, ◌^◌, ◌<◌, ◌≤◌, nat_lt, Bool, true, false, cond, List, [], ◌∷◌, ◌++◌, length, take, drop, refl, sym, ap, ap₂, ◌∙◌, subst, arith, Option, Some, None, Result, Ok, Err}
use Rattle.std.proofs.lemmas.Bool.Decides.{nat_tests}
use Rattle.std.proofs.lemmas.Fmt.{decimal-digits_value, digits_decimal, digits_value-decimal, decimal_nonempty, length-decimal-le}
use Rattle.std.proofs.lemmas.List.{take-append-drop}
use Rattle.std.proofs.lemmas.Str.Parse.{parse_digits}
use Rattle.std.proofs.Math.Seq.{take-append_seam, drop-append_seam}
use Rattle.std.specs.Char.{is_ascii_digit}
use Rattle.std.specs.Fmt.{decimal}
use Rattle.std.specs.List.{take_while, prefix_len}
use Rattle.std.specs.Result.{result_ok, OkIff}
use Rattle.std.specs.Str.Parse.{AllDigits, digits_value, ParsesUnsigned}
use Rattle.site_text.specs.ScriptReading.{Read, got, bad, is_decimal}
use Rattle.site_text.specs.Wholes.{numbers, whole_value, whole_of, whole_at}
use Rattle.site_text.proofs.DecimalLaws.{own, digits_front, decimal_some, decimal_first, decimal_test, prefix_digits, one_digit, IsStop}

low_is : (n : ℕ) → nat_lt n numbers ≡ true → n < 2 ^ 64
low_is n e = grind (arith, nat_tests)

low_test : (n : ℕ) → n < 2 ^ 64 → nat_lt n numbers ≡ true
low_test n h = grind (arith, nat_tests)

high_test : (n : ℕ) → (n < 2 ^ 64 → ⊥) → nat_lt n numbers ≡ false
high_test n h = by (nat_lt n numbers) refl
  where
    by : (t : Bool) → nat_lt n numbers ≡ t → nat_lt n numbers ≡ false
    by true e = absurd (h (low_is n e))
    by false e = e

-- `parse` reads digits as their number
pub whole_parsed : {E : Type 0} (ds : List ℕ) (r : Result ℕ E) → AllDigits 10 ds → is_decimal 20 ds ≡ true → ParsesUnsigned 64 10 ds r → result_ok r ≡ whole_value ds
whole_parsed {E = E} ds r digits test h = by r (parse_digits own 64 ds r h digits)
  where
    value : whole_value ds ≡ cond (nat_lt (digits_value 10 ds) numbers) (Some (digits_value 10 ds)) None
    value = ap (λ t. cond t (cond (nat_lt (digits_value 10 ds) numbers) (Some (digits_value 10 ds)) None) None) test

    by : (r : Result ℕ E) → OkIff r ((0 < length ds) × (digits_value 10 ds < 2 ^ 64)) (digits_value 10 ds) → result_ok r ≡ whole_value ds
    by (Ok x) g = ap Some g.1 ∙ sym (value ∙ ap (λ t. cond t (Some (digits_value 10 ds)) None) (low_test (digits_value 10 ds) g.0.1))
    by (Err d) g = sym (value ∙ ap (λ t. cond t (Some (digits_value 10 ds)) None) (high_test (digits_value 10 ds) (λ low. g (decimal_some 20 ds test, low))))

-- What is read is written so.
pub whole_sound : (bs rest : List ℕ) (n : ℕ) → whole_at bs ≡ got n rest → (bs ≡ decimal n ++ rest) × (n < 2 ^ 64)
unfolding whole_at
whole_sound bs rest n e = by (is_decimal 20 ds) refl (nat_lt (digits_value 10 ds) numbers) refl e
  where
    ds : List ℕ
    ds = take_while is_ascii_digit bs

    by : (t : Bool) → is_decimal 20 ds ≡ t → (u : Bool) → nat_lt (digits_value 10 ds) numbers ≡ u → whole_of (cond t (cond u (Some (digits_value 10 ds)) None) None) (drop (prefix_len is_ascii_digit bs) bs) ≡ got n rest
        → (bs ≡ decimal n ++ rest) × (n < 2 ^ 64)
    by true test true low e =
        let is : digits_value 10 ds ≡ n = cc in
        let behind : drop (prefix_len is_ascii_digit bs) bs ≡ rest = cc in
        let digits : AllDigits 10 ds = digits_front bs in
        let small : digits_value 10 ds < 2 ^ 64 = low_is (digits_value 10 ds) low in
        let written : decimal (digits_value 10 ds) ≡ ds = decimal-digits_value own ds digits (decimal_some 20 ds test) (decimal_first 20 ds test) small in
        (sym (take-append-drop (prefix_len is_ascii_digit bs) bs) ∙ (ap₂ (λ x y. x ++ y) (sym written ∙ ap decimal is) behind), subst (λ v. v < 2 ^ 64) is small)
    by true test false low e = cc
    by false test u low e = cc

-- And what is written so is read, where no digit follows.
pub whole_complete : (n : ℕ) (rest : List ℕ) → n < 2 ^ 64 → IsStop rest → whole_at (decimal n ++ rest) ≡ got n rest
unfolding whole_at
whole_complete n rest small stop =
    let ds : List ℕ = decimal n in
    let digits : AllDigits 10 ds = digits_decimal own n small in
    let len : prefix_len is_ascii_digit (ds ++ rest) ≡ length ds = prefix_digits ds rest digits stop in
    let front : take_while is_ascii_digit (ds ++ rest) ≡ ds = ap (λ k. take k (ds ++ rest)) len ∙ take-append_seam ds rest in
    let behind : drop (prefix_len is_ascii_digit (ds ++ rest)) (ds ++ rest) ≡ rest = ap (λ k. drop k (ds ++ rest)) len ∙ drop-append_seam ds rest in
    let below : n < 10 ^ 20 = omega arith in
    let test : is_decimal 20 ds ≡ true = decimal_test 20 ds (decimal_nonempty n small) (length-decimal-le 20 n (omega arith) below small) (one_digit n small) in
    let back : digits_value 10 ds ≡ n = digits_value-decimal own n small in
    ap₂ (λ d r. whole_of (whole_value d) r) front behind
    ∙ (ap (λ t. whole_of (cond t (cond (nat_lt (digits_value 10 ds) numbers) (Some (digits_value 10 ds)) None) None) rest) test
    ∙ (ap (λ v. whole_of (cond (nat_lt v numbers) (Some v) None) rest) back ∙ ap (λ t. whole_of (cond t (Some n) None) rest) (low_test n small)))
