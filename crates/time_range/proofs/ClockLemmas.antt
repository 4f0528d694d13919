-- Two digits, and times of a clock, as they are written and as they are read.
use Rattle.std.proofs.Common.{◌≡◌, ℕ, ◌+◌, ◌-◌, ◌*◌, ◌/◌, ◌%◌, ◌<◌, ◌≤◌, ◌==◌, ◌&&◌, Bool, true, false, cond, ◌⊎◌, inl, inr, Option, Some, None, List, get_or, option_and_then, refl, arith}
use Rattle.std.specs.Char.{is_ascii_digit}
use Rattle.std.proofs.lemmas.Bool.Decides.{nat_tests}
use Rattle.time_range.specs.Clock.{number_of, minute_of, minute_at}

-- which way a choice went, from what it gave
pub chosen : {A : Type 0} {x y z : A} (b : Bool) → cond b x y ≡ z → ((b ≡ true) × (x ≡ z)) ⊎ ((b ≡ false) × (y ≡ z))
chosen true e = inl (refl, e)
chosen false e = inr (refl, e)

-- a choice between a value and none gave a value
pub guarded : {A : Type 0} {o : Option A} {y : A} (b : Bool) → cond b o None ≡ Some y → (b ≡ true) × (o ≡ Some y)
guarded true e = (refl, e)
guarded false e = absurd (cc)

pub digit_test : (d : ℕ) → d < 10 → is_ascii_digit (48 + d) ≡ true
digit_test d h = grind (arith, nat_tests)

pub digit_range : (b : ℕ) → is_ascii_digit b ≡ true → (48 ≤ b) × (b ≤ 57)
digit_range b e = grind (arith, nat_tests)

pub both : (a b : Bool) → (a && b) ≡ true → (a ≡ true) × (b ≡ true)
both true b e = (refl, e)
both false b e = absurd (cc)

-- what two digits are that make a number
pub number_found : (tens ones n : ℕ) → number_of tens ones ≡ Some n → (n < 100) × (tens ≡ 48 + n / 10) × (ones ≡ 48 + n % 10)
number_found tens ones n e =
    let g = guarded (is_ascii_digit tens && is_ascii_digit ones) e in
    let d = both (is_ascii_digit tens) (is_ascii_digit ones) g.0 in
    let t : (48 ≤ tens) × (tens ≤ 57) = digit_range tens d.0 in
    let o : (48 ≤ ones) × (ones ≤ 57) = digit_range ones d.1 in
    let v : (tens - 48) * 10 + (ones - 48) ≡ n = cc in
    (omega arith, omega arith, omega arith)

pub number_again : (n : ℕ) → n < 100 → number_of (48 + n / 10) (48 + n % 10) ≡ Some n
number_again n h =
    let t = digit_test (n / 10) (omega arith) in
    let o = digit_test (n % 10) (omega arith) in
    let v : ((48 + n / 10) - 48) * 10 + ((48 + n % 10) - 48) ≡ n = omega arith in
    rw (t, o, v) refl

-- the five bytes from a place on show this minute of the day
pub record ReadsAt (text : List ℕ) (at n : ℕ) : Type 0 where
  pub small : n < 6000
  pub hour_tens : get_or text at 0 ≡ 48 + n / 60 / 10
  pub hour_ones : get_or text (at + 1) 0 ≡ 48 + n / 60 % 10
  pub colon : get_or text (at + 2) 0 ≡ 58
  pub minute_tens : get_or text (at + 3) 0 ≡ 48 + n % 60 / 10
  pub minute_ones : get_or text (at + 4) 0 ≡ 48 + n % 60 % 10

-- two numbers, one after the other
pub two_then : {A B C : Type 0} (x : Option A) (y : Option B) (f : A → B → Option C) (z : C) → option_and_then (λ a. option_and_then (λ b. f a b) y) x ≡ Some z → (a : A) × (b : B) × (x ≡ Some a) × (y ≡ Some b) × (f a b ≡ Some z)
two_then None y f z e = absurd (cc)
two_then (Some a) None f z e = absurd (cc)
two_then (Some a) (Some b) f z e = (a, b, refl, refl, e)

minute_parts : (hour minute n : ℕ) → hour < 100 → minute_of hour minute ≡ Some n → (n < 6000) × (n / 60 ≡ hour) × (n % 60 ≡ minute)
minute_parts hour minute n h e = grind (arith, nat_tests)

pub minute_found : (text : List ℕ) (at n : ℕ) → minute_at text at ≡ Some n → ReadsAt text at n
unfolding minute_at
minute_found text at n e =
    let g = guarded (get_or text (at + 2) 0 == 58) e in
    let t = two_then (number_of (get_or text at 0) (get_or text (at + 1) 0)) (number_of (get_or text (at + 3) 0) (get_or text (at + 4) 0)) (λ hour minute. minute_of hour minute) n g.1 in
    let hour = number_found _ _ t.0 t.2 in
    let minute = number_found _ _ t.1 t.3 in
    let parts = minute_parts t.0 t.1 n hour.0 t.4 in
    record {
      small = parts.0;
      hour_tens = rw parts.1 hour.1;
      hour_ones = rw parts.1 hour.2;
      colon = grind (arith, nat_tests, g.0);
      minute_tens = rw parts.2 minute.1;
      minute_ones = rw parts.2 minute.2;
    }

pub minute_again : (text : List ℕ) (at n : ℕ) → ReadsAt text at n → minute_at text at ≡ Some n
unfolding minute_at
minute_again text at n r =
    let hour = number_again (n / 60) (omega arith) in
    let minute = number_again (n % 60) (omega arith) in
    let whole : minute_of (n / 60) (n % 60) ≡ Some n = grind (arith, nat_tests) in
    rw (r.colon, r.hour_tens, r.hour_ones, r.minute_tens, r.minute_ones, hour, minute) whole
