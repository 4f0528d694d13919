-- Decimal numbers, both ways.
use Rattle.std.proofs.Common.{◌≡◌, ℕ, suc, zero, ◌+◌, ◌^◌, ◌<◌, ◌≤◌, ◌==◌, ◌&&◌, nat_le, not, Bool, true, false, cond, List, [], ◌∷◌, ◌++◌, length, take, drop, get_or, refl, sym, ap, ap₂, ◌∙◌, subst, arith, Option, Some, None, MatchOption, Result, Ok, Err, lit<}
use Rattle.std.proofs.Math.Nat.{pow-le-pow_right}
use Rattle.std.proofs.Math.Seq.{take-append_seam, drop-append_seam}
use Rattle.std.proofs.lemmas.Bool.Decides.{nat_tests}
use Rattle.std.proofs.lemmas.Fmt.{decimal-digits_value, digits_decimal, digits_value-decimal, decimal_nonempty, length-decimal-le, first_decimal, decimal_digit}
use Rattle.std.proofs.lemmas.List.{take-append-drop}
use Rattle.std.proofs.lemmas.Str.Parse.{IsNumeralModel, numerals_by_value, tells_digits, parse_digits, digits_value_short}
use Rattle.std.specs.Char.{is_ascii_digit, digit_value}
use Rattle.std.specs.Fmt.{decimal}
use Rattle.std.specs.List.{take_while, prefix_len}
use Rattle.std.specs.Result.{result_ok, OkIff}
use Rattle.std.specs.Str.Parse.{AllDigits, digits_value, ParsesUnsigned}
use Rattle.site_text.specs.ScriptReading.{Read, got, bad, byte_at, is_decimal, decimal_of, decimal_at, ended_by, number_end, number_at}

pub own : IsNumeralModel (AllDigits 10) (digits_value 10)
own = numerals_by_value (AllDigits 10) tells_digits

digit_is : (b : ℕ) → is_ascii_digit b ≡ true → digit_value b < 10
digit_is b e = grind (arith, nat_tests)

is_digit : (b : ℕ) → digit_value b < 10 → is_ascii_digit b ≡ true
is_digit b h = grind (arith, nat_tests)

-- the digits at the front
pub digits_front : (bs : List ℕ) → AllDigits 10 (take (prefix_len is_ascii_digit bs) bs)
digits_front [] = tt
digits_front (b ∷ bs) = by (is_ascii_digit b) refl (digits_front bs)
  where
    by : (t : Bool) → is_ascii_digit b ≡ t → AllDigits 10 (take (prefix_len is_ascii_digit bs) bs) → AllDigits 10 (take (cond t (1 + prefix_len is_ascii_digit bs) 0) (b ∷ bs))
    by true e k =
        let one : suc (prefix_len is_ascii_digit bs) ≡ 1 + prefix_len is_ascii_digit bs = omega arith in
        subst (λ n. AllDigits 10 (take n (b ∷ bs))) one (digit_is b e, k)
    by false e k = tt

both : (a b : Bool) → (a && b) ≡ true → (a ≡ true) × (b ≡ true)
both true b e = (refl, e)
both false b e = cc

-- what the test says
pub decimal_some : (most : ℕ) (ds : List ℕ) → is_decimal most ds ≡ true → 0 < length ds
decimal_some most [] e = cc
decimal_some most (d ∷ ds) e = omega arith

pub decimal_few : (most : ℕ) (ds : List ℕ) → is_decimal most ds ≡ true → length ds ≤ most
decimal_few most [] e = cc
decimal_few most (d ∷ []) e = grind (arith, nat_tests)
decimal_few most (d ∷ e ∷ ds) h = let g = (both (not (d == 48)) (nat_le (length (d ∷ e ∷ ds)) most) h).1 in grind (arith, nat_tests, g)

pub decimal_first : (most : ℕ) (ds : List ℕ) → is_decimal most ds ≡ true → get_or ds 0 0 ≡ 48 → length ds ≡ 1
decimal_first most [] e h = cc
decimal_first most (d ∷ []) e h = refl
decimal_first most (d ∷ e ∷ ds) t h = let g = (both (not (d == 48)) (nat_le (length (d ∷ e ∷ ds)) most) t).0 in absurd (grind (arith, nat_tests, g))

pub decimal_test : (most : ℕ) (ds : List ℕ) → 0 < length ds → length ds ≤ most → (get_or ds 0 0 ≡ 48 → length ds ≡ 1) → is_decimal most ds ≡ true
decimal_test most [] some few first = absurd (omega arith)
decimal_test most (d ∷ []) some few first = grind (arith, nat_tests)
decimal_test most (d ∷ e ∷ ds) some few first = by (d == 48) refl
  where
    low : nat_le (length (d ∷ e ∷ ds)) most ≡ true
    low = grind (arith, nat_tests)

    long : d ≡ 48 → ⊥
    long h = absurd (omega (arith, first h))

    by : (t : Bool) → (d == 48) ≡ t → (not t && nat_le (length (d ∷ e ∷ ds)) most) ≡ true
    by true hit = absurd (long (grind (arith, nat_tests)))
    by false miss = low

-- so many digits are below a power of ten
pub short_value : (most : ℕ) (ds : List ℕ) → AllDigits 10 ds → length ds ≤ most → digits_value 10 ds < 10 ^ most
short_value most ds h few = digits_value_short own ds most h few

power : (most : ℕ) → most ≤ 19 → (n : ℕ) → n < 10 ^ most → n < 2 ^ 64
power most h n l = let le : 10 ^ most ≤ 10 ^ 19 = pow-le-pow_right {n = 10} (lit< tt) h in omega arith

-- `parse` reads digits as their number
pub decimal_parsed : {E : Type 0} (most : ℕ) (ds : List ℕ) (r : Result ℕ E) → most ≤ 19 → AllDigits 10 ds → is_decimal most ds ≡ true → ParsesUnsigned 64 10 ds r
    → MatchOption (result_ok r) (is_decimal most ds ≡ false) (λ n. (is_decimal most ds ≡ true) × (n ≡ digits_value 10 ds))
decimal_parsed {E = E} most ds r few digits test h = by r (parse_digits own 64 ds r h digits)
  where
    fits : digits_value 10 ds < 2 ^ 64
    fits = power most few (digits_value 10 ds) (short_value most ds digits (decimal_few most ds test))

    by : (r : Result ℕ E) → OkIff r ((0 < length ds) × (digits_value 10 ds < 2 ^ 64)) (digits_value 10 ds) → MatchOption (result_ok r) (is_decimal most ds ≡ false) (λ n. (is_decimal most ds ≡ true) × (n ≡ digits_value 10 ds))
    by (Ok x) g = (test, g.1)
    by (Err d) g = absurd (g (decimal_some most ds test, fits))

-- What is read is written so.
pub decimal_sound : (most : ℕ) (bs rest : List ℕ) (n : ℕ) → most ≤ 19 → decimal_at most bs ≡ got n rest → (bs ≡ decimal n ++ rest) × (n < 10 ^ most)
unfolding decimal_at
decimal_sound most bs rest n few e = by (is_decimal most ds) refl e
  where
    ds : List ℕ
    ds = take_while is_ascii_digit bs

    by : (t : Bool) → is_decimal most ds ≡ t → cond t (got (digits_value 10 ds) (drop (prefix_len is_ascii_digit bs) bs)) bad ≡ got n rest → (bs ≡ decimal n ++ rest) × (n < 10 ^ most)
    by true test e =
        let is : digits_value 10 ds ≡ n = cc in
        let behind : drop (prefix_len is_ascii_digit bs) bs ≡ rest = cc in
        let digits : AllDigits 10 ds = digits_front bs in
        let low : digits_value 10 ds < 10 ^ most = short_value most ds digits (decimal_few most ds test) in
        let written : decimal (digits_value 10 ds) ≡ ds = decimal-digits_value own ds digits (decimal_some most ds test) (decimal_first most ds test) (power most few (digits_value 10 ds) low) in
        (sym (take-append-drop (prefix_len is_ascii_digit bs) bs) ∙ (ap₂ (λ x y. x ++ y) (sym written ∙ ap decimal is) behind), subst (λ v. v < 10 ^ most) is low)
    by false test e = cc

-- And what is written so is read, where no digit follows.
abbrev pub IsStop : List ℕ → Type 0
IsStop [] = Unit {0}
IsStop (b ∷ bs) = is_ascii_digit b ≡ false

prefix_stop : (rest : List ℕ) → IsStop rest → prefix_len is_ascii_digit rest ≡ 0
prefix_stop [] h = refl
prefix_stop (b ∷ bs) h = ap (λ t. cond t (1 + prefix_len is_ascii_digit bs) 0) h

pub prefix_digits : (ds rest : List ℕ) → AllDigits 10 ds → IsStop rest → prefix_len is_ascii_digit (ds ++ rest) ≡ length ds
prefix_digits [] rest h s = prefix_stop rest s
prefix_digits (d ∷ ds) rest h s =
    ap (λ t. cond t (1 + prefix_len is_ascii_digit (ds ++ rest)) 0) (is_digit d h.0) ∙ omega (arith, prefix_digits ds rest h.1 s)

pub one_digit : (n : ℕ) → n < 2 ^ 64 → get_or (decimal n) 0 0 ≡ 48 → length (decimal n) ≡ 1
one_digit zero small h = ap length (decimal_digit 0 (omega arith))
one_digit (suc n) small h = absurd (let first : 48 < get_or (decimal (suc n)) 0 0 = first_decimal (suc n) (omega arith) small in omega arith)

pub decimal_complete : (most n : ℕ) (rest : List ℕ) → 0 < most → most ≤ 19 → n < 10 ^ most → IsStop rest → decimal_at most (decimal n ++ rest) ≡ got n rest
unfolding decimal_at
decimal_complete most n rest some few low stop =
    let small : n < 2 ^ 64 = power most few n low in
    let ds : List ℕ = decimal n in
    let digits : AllDigits 10 ds = digits_decimal own n small in
    let len : prefix_len is_ascii_digit (ds ++ rest) ≡ length ds = prefix_digits ds rest digits stop in
    let front : take_while is_ascii_digit (ds ++ rest) ≡ ds = ap (λ k. take k (ds ++ rest)) len ∙ take-append_seam ds rest in
    let behind : drop (prefix_len is_ascii_digit (ds ++ rest)) (ds ++ rest) ≡ rest = ap (λ k. drop k (ds ++ rest)) len ∙ drop-append_seam ds rest in
    let test : is_decimal most ds ≡ true = decimal_test most ds (decimal_nonempty n small) (length-decimal-le most n some low small) (one_digit n small) in
    ap₂ (decimal_of most) front behind
    ∙ (ap (λ t. cond t (got (digits_value 10 ds) rest) bad) test ∙ ap (λ v. got v rest) (digits_value-decimal own n small))

-- A number and the byte behind it.
byte_sound : (b : ℕ) (bs rest : List ℕ) → byte_at b bs ≡ Some rest → bs ≡ b ∷ rest
byte_sound b [] rest e = cc
byte_sound b (x ∷ xs) rest e = by (x == b) refl e
  where
    by : (t : Bool) → (x == b) ≡ t → cond t (Some xs) None ≡ Some rest → x ∷ xs ≡ b ∷ rest
    by true hit e =
        let is : x ≡ b = grind (arith, nat_tests) in
        let behind : xs ≡ rest = cc in
        ap₂ (λ y ys. y ∷ ys) is behind
    by false miss e = cc

byte_complete : (b : ℕ) (rest : List ℕ) → byte_at b (b ∷ rest) ≡ Some rest
byte_complete b rest = let hit : (b == b) ≡ true = grind (arith, nat_tests) in ap (λ t. cond t (Some rest) None) hit

pub ended_sound : (b : ℕ) (bs rest : List ℕ) → byte_at b bs ≡ Some rest → bs ≡ b ∷ rest
ended_sound b bs rest e = byte_sound b bs rest e

pub ended_complete : (b : ℕ) (rest : List ℕ) → byte_at b (b ∷ rest) ≡ Some rest
ended_complete b rest = byte_complete b rest

pub record IsNumberAt (b most : ℕ) (bs rest : List ℕ) (n : ℕ) : Type 0 where
  pub whole : bs ≡ decimal n ++ b ∷ rest
  pub low : n < 10 ^ most

pub number_sound : (b most : ℕ) (bs rest : List ℕ) (n : ℕ) → most ≤ 19 → number_at b most bs ≡ got n rest → IsNumberAt b most bs rest n
unfolding number_at
number_sound b most bs rest n few e = by (decimal_at most bs) refl e
  where
    ended : (m : ℕ) (more : List ℕ) → decimal_at most bs ≡ got m more → (r : Option (List ℕ)) → byte_at b more ≡ r → ended_by m r ≡ got n rest → IsNumberAt b most bs rest n
    ended m more h None g e = cc
    ended m more h (Some behind) g e =
        let is : m ≡ n = cc in
        let last : behind ≡ rest = cc in
        let front = decimal_sound most bs more m few h in
        record {
          whole = front.0 ∙ (ap (λ xs. decimal m ++ xs) (byte_sound b more behind g) ∙ ap₂ (λ k xs. decimal k ++ b ∷ xs) is last);
          low = subst (λ v. v < 10 ^ most) is front.1;
        }

    by : (r : Read ℕ) → decimal_at most bs ≡ r → number_end b r ≡ got n rest → IsNumberAt b most bs rest n
    by bad h e = cc
    by (got m more) h e = ended m more h (byte_at b more) refl e

pub number_complete : (b most n : ℕ) (rest : List ℕ) → 0 < most → most ≤ 19 → n < 10 ^ most → is_ascii_digit b ≡ false → number_at b most (decimal n ++ b ∷ rest) ≡ got n rest
unfolding number_at
number_complete b most n rest some few low stop =
    ap (number_end b) (decimal_complete most n (b ∷ rest) some few low stop) ∙ ap (ended_by n) (byte_complete b rest)
