-- The digits before and behind the point, times the unit.
use Rattle.std.proofs.Common.{◌≡◌, ◌≢◌, ℕ, ◌+◌, ◌-◌, ◌*◌, ◌/◌, ◌%◌, ◌^◌, ◌<◌, ◌≤◌, ◌==◌, Bool, true, false, List, ◌++◌, length, arith, ap, sym, ◌∙◌, refl, Option, Some, None, pos, ℤ, nat_lt, if◌then◌else◌}
use Rattle.std.proofs.Math.Nat.{mul-mod_left, mul-div_cancel, le_of_mul-le-mul_left}
use Rattle.std.proofs.lemmas.Bool.Decides.{nat_tests}
use Rattle.std.specs.Str.Parse.{digits_value}
use Rattle.site_base.specs.Numbers.{ranged}
use Rattle.site_base.specs.Reading.{scaled}
use Rattle.site_base.proofs.Digits.{ten_power, value_append}

-- what `scaled` gives of a product and a power of ten
cut : ℕ → ℕ → Option ℤ
cut x p = if x % p == 0 then ranged (pos (x / p)) else None

cut_whole : (x n p : ℕ) → 1 ≤ p → x ≡ n * p → cut x p ≡ ranged (pos n)
unfolding cut
cut_whole x n p one e =
    ap (λ y. cut y p) e
    ∙ ap (λ r. if r == 0 then ranged (pos (n * p / p)) else None) (mul-mod_left n p)
    ∙ ap (λ q. ranged (pos q)) (mul-div_cancel n {n = p} (omega arith))

tested : (x p : ℕ) → 1 ≤ p → (x % p == 0) ≡ true → x ≡ x / p * p
tested x p one e = grind (arith, nat_tests)

cut_by : (x p : ℕ) → 1 ≤ p → ((n : ℕ) → x ≢ n * p) → (t : Bool) → (x % p == 0) ≡ t → (if t then ranged (pos (x / p)) else None) ≡ None
cut_by x p one h true e = absurd (h (x / p) (tested x p one e))
cut_by x p one h false e = refl

cut_none : (x p : ℕ) → 1 ≤ p → ((n : ℕ) → x ≢ n * p) → cut x p ≡ None
unfolding cut
cut_none x p one h = cut_by x p one h (x % p == 0) refl

pub scaled_is : (whole behind : List ℕ) (size part : ℕ) → part * 10 ^ length behind ≡ digits_value 10 behind * size → scaled whole behind size ≡ ranged (pos (digits_value 10 whole * size + part))
unfolding cut
scaled_is whole behind size part e =
    let p : ℕ = 10 ^ length behind in
    let w : ℕ = digits_value 10 whole in
    let b : ℕ = digits_value 10 behind in
    let all : (w * p + b) * size ≡ (w * size + part) * p = omega (arith, e) in
    cut_whole (digits_value 10 (whole ++ behind) * size) (w * size + part) p (ten_power (length behind)) (ap (λ v. v * size) (value_append whole behind) ∙ all)

without_whole : (w b size p n : ℕ) → 1 ≤ p → (w * p + b) * size ≡ n * p → (n - w * size) * p ≡ b * size
without_whole w b size p n one e =
    let least : p * (w * size) ≤ p * n = omega (arith, e) in
    let below : w * size ≤ n = le_of_mul-le-mul_left least (omega arith) in
    let m : ℕ = n - w * size in
    let split : n ≡ w * size + m = omega arith in
    let f : n * p ≡ (w * size + m) * p = ap (λ z. z * p) split in
    omega (arith, f, e)

pub scaled_none : (whole behind : List ℕ) (size : ℕ) → ((n : ℕ) → n * 10 ^ length behind ≢ digits_value 10 behind * size) → scaled whole behind size ≡ None
unfolding cut
scaled_none whole behind size h =
    cut_none (digits_value 10 (whole ++ behind) * size) (10 ^ length behind) (ten_power (length behind))
    (λ n e. h (n - digits_value 10 whole * size)
    (without_whole (digits_value 10 whole) (digits_value 10 behind) size (10 ^ length behind) n (ten_power (length behind))
    (ap (λ v. v * size) (sym (value_append whole behind)) ∙ e)))

-- a number of units that is itself too great
pub scaled_high : (whole behind : List ℕ) (size part : ℕ) → part * 10 ^ length behind ≡ digits_value 10 behind * size → 2 ^ 63 ≤ digits_value 10 whole * size + part → scaled whole behind size ≡ None
scaled_high whole behind size part e h = scaled_is whole behind size part e ∙ ranged_high (digits_value 10 whole * size + part) h
  where
    ranged_high : (n : ℕ) → 2 ^ 63 ≤ n → ranged (pos n) ≡ None
    ranged_high n h = grind (arith, nat_tests)

pub ranged_small : (n : ℕ) → n < 2 ^ 63 → ranged (pos n) ≡ Some (pos n)
ranged_small n h = grind (arith, nat_tests)

-- what all the digits make
pub scaled_number : (whole behind : List ℕ) (size n : ℕ) → n * 10 ^ length behind ≡ digits_value 10 (whole ++ behind) * size → scaled whole behind size ≡ ranged (pos n)
unfolding cut
scaled_number whole behind size n e = cut_whole (digits_value 10 (whole ++ behind) * size) n (10 ^ length behind) (ten_power (length behind)) (sym e)

pub none_some : (z : ℤ) → None ≡ Some z → ⊥
none_some z e = cc

ranged_by : (n : ℕ) (z : ℤ) (t : Bool) → (if t then Some (pos n) else None) ≡ Some z → z ≡ pos n
ranged_by n z true e = cc
ranged_by n z false e = absurd (none_some z e)

cut_some : (x p : ℕ) (z : ℤ) → 1 ≤ p → (t : Bool) → (x % p == 0) ≡ t → (if t then ranged (pos (x / p)) else None) ≡ Some z → (n : ℕ) × (z ≡ pos n) × (n * p ≡ x)
cut_some x p z one true e f = (x / p, ranged_by (x / p) z (nat_lt (x / p) (2 ^ 63)) f, sym (tested x p one e))
cut_some x p z one false e f = absurd (none_some z f)

pub scaled_some : (whole behind : List ℕ) (size : ℕ) (z : ℤ) → scaled whole behind size ≡ Some z → (n : ℕ) × (z ≡ pos n) × (n * 10 ^ length behind ≡ digits_value 10 (whole ++ behind) * size)
scaled_some whole behind size z e =
    let p : ℕ = 10 ^ length behind in
    let x : ℕ = digits_value 10 (whole ++ behind) * size in
    cut_some x p z (ten_power (length behind)) (x % p == 0) refl e
