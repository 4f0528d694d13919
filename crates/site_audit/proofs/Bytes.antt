-- Bytes that stand up to one that they lack, and digits.
use Rattle.std.proofs.Common.{◌≡◌, ℕ, zero, suc, ◌+◌, ◌/◌, ◌%◌, ◌^◌, ◌<◌, ◌≤◌, ◌==◌, ◌&&◌, nat_lt, not, Bool, true, false, cond, List, [], ◌∷◌, ◌++◌, length, refl, sym, ap, ◌∙◌, arith, pow-suc, ◌⊎◌, inl, inr}
use Rattle.std.proofs.lemmas.Bool.{cases_lt}
use Rattle.std.proofs.lemmas.Bool.Decides.{nat_tests}
use Rattle.std.proofs.lemmas.Fmt.{decimal_is_IsNumeral_wide, length-decimal-le}
use Rattle.std.specs.Fmt.{decimal, digit_glyph, digits, digits_onto}
use Rattle.std.specs.List.{list_all}
use Rattle.std.specs.Str.Parse.{digits_value}

abbrev pub head_of : List ℕ → ℕ
head_of [] = 0
head_of (b ∷ bs) = b

abbrev pub tail_of : List ℕ → List ℕ
tail_of [] = []
tail_of (b ∷ bs) = bs

-- Tests of all bytes.

pub first_so : (a b : Bool) → (a && b) ≡ true → a ≡ true
first_so true b h = refl
first_so false b h = absurd cc

pub rest_so : (a b : Bool) → (a && b) ≡ true → b ≡ true
rest_so true b h = h
rest_so false b h = absurd cc

pub both_so : (a b : Bool) → a ≡ true → b ≡ true → (a && b) ≡ true
both_so true b h g = g
both_so false b h g = absurd cc

pub append_so : (test : ℕ → Bool) (xs ys : List ℕ) → list_all test xs ≡ true → list_all test ys ≡ true → list_all test (xs ++ ys) ≡ true
append_so test [] ys h g = g
append_so test (x ∷ xs) ys h g = both_so (test x) (list_all test (xs ++ ys)) (first_so (test x) (list_all test xs) h) (append_so test xs ys (rest_so (test x) (list_all test xs) h) g)

pub weaker_so : (test other : ℕ → Bool) → ((b : ℕ) → test b ≡ true → other b ≡ true) → (xs : List ℕ) → list_all test xs ≡ true → list_all other xs ≡ true
weaker_so test other f [] h = refl
weaker_so test other f (x ∷ xs) h = both_so (other x) (list_all other xs) (f x (first_so (test x) (list_all test xs) h)) (weaker_so test other f xs (rest_so (test x) (list_all test xs) h))

-- what stands before the first byte that fails a test
pub same_front : (test : ℕ → Bool) (xs ys : List ℕ) (c d : ℕ) (r q : List ℕ) → list_all test xs ≡ true → list_all test ys ≡ true → test c ≡ false → test d ≡ false → xs ++ c ∷ r ≡ ys ++ d ∷ q → (xs ≡ ys) × (c ∷ r ≡ d ∷ q)
same_front test [] [] c d r q hx hy stop stop2 e = (refl, e)
same_front test [] (y ∷ ys) c d r q hx hy stop stop2 e = let bad : false ≡ true = sym stop ∙ (ap test (ap head_of e) ∙ first_so (test y) (list_all test ys) hy) in absurd cc
same_front test (x ∷ xs) [] c d r q hx hy stop stop2 e = let bad : false ≡ true = sym stop2 ∙ (ap test (sym (ap head_of e)) ∙ first_so (test x) (list_all test xs) hx) in absurd cc
same_front test (x ∷ xs) (y ∷ ys) c d r q hx hy stop stop2 e =
    let one : x ≡ y = ap head_of e in
    let more = same_front test xs ys c d r q (rest_so (test x) (list_all test xs) hx) (rest_so (test y) (list_all test ys) hy) stop stop2 (ap tail_of e) in
    ((λ i. one i ∷ more.0 i), more.1)

-- bytes none of which is this one
abbrev pub lacks : ℕ → List ℕ → Bool
lacks c bs = list_all (λ b. not (b == c)) bs

pub lacks_append : (c : ℕ) (xs ys : List ℕ) → lacks c xs ≡ true → lacks c ys ≡ true → lacks c (xs ++ ys) ≡ true
lacks_append c xs ys h g = append_so (λ b. not (b == c)) xs ys h g

pub is_itself : (c : ℕ) → not (c == c) ≡ false
is_itself c = let e : (c == c) ≡ true = grind (arith, nat_tests) in ap not e

-- Digits.

abbrev pub is_digit : ℕ → Bool
is_digit b = nat_lt 47 b && nat_lt b 58

glyph_is : (d : ℕ) → d < 10 → is_digit (digit_glyph false d) ≡ true
glyph_is d h = let e : nat_lt d 10 ≡ true = grind (arith, nat_tests) in ap (λ t. is_digit (cond t (48 + d) (87 + d))) e ∙ both_so (nat_lt 47 (48 + d)) (nat_lt (48 + d) 58) (grind (arith, nat_tests)) (grind (arith, nat_tests))

last_is : (n : ℕ) → is_digit (digit_glyph false (n % 10)) ≡ true
last_is n = glyph_is (n % 10) (omega arith)

onto_digits : (k n : ℕ) (acc : List ℕ) → list_all is_digit acc ≡ true → list_all is_digit (digits_onto k 10 false n acc) ≡ true
onto_digits zero n acc h = h
onto_digits (suc k) n acc h = by (n / 10 == 0) (onto_digits k (n / 10) (digit_glyph false (n % 10) ∷ acc) more)
  where
    more : list_all is_digit (digit_glyph false (n % 10) ∷ acc) ≡ true
    more = both_so (is_digit (digit_glyph false (n % 10))) (list_all is_digit acc) (last_is n) h

    by : (t : Bool) → list_all is_digit (digits_onto k 10 false (n / 10) (digit_glyph false (n % 10) ∷ acc)) ≡ true → list_all is_digit (cond t (digit_glyph false (n % 10) ∷ acc) (digits_onto k 10 false (n / 10) (digit_glyph false (n % 10) ∷ acc))) ≡ true
    by true again = more
    by false again = again

pub decimal_digits : (n : ℕ) → list_all is_digit (decimal n) ≡ true
unfolding digits
decimal_digits n = onto_digits 64 n [] refl

digit_lacks : (c : ℕ) → is_digit c ≡ false → (b : ℕ) → is_digit b ≡ true → not (b == c) ≡ true
digit_lacks c other b h = by (b == c) refl
  where
    by : (t : Bool) → (b == c) ≡ t → not t ≡ true
    by false e = refl
    by true e = let same : b ≡ c = grind (arith, nat_tests) in let bad : true ≡ false = sym h ∙ (ap is_digit same ∙ other) in absurd cc

-- a number's digits lack what is no digit
pub decimal_lacks : (c n : ℕ) → is_digit c ≡ false → lacks c (decimal n) ≡ true
decimal_lacks c n other = weaker_so is_digit (λ b. not (b == c)) (digit_lacks c other) (decimal n) (decimal_digits n)

power_some : (k : ℕ) → 1 ≤ 10 ^ k
power_some zero = omega arith
power_some (suc k) = let p = power_some k in let e = pow-suc 10 k in omega (arith, p, e)

-- a number that is too great has as many digits as are written at most
many_onto : (k n : ℕ) (acc : List ℕ) → 10 ^ k ≤ n → length (digits_onto k 10 false n acc) ≡ k + length acc
many_onto zero n acc h = omega arith
many_onto (suc k) n acc h = by (n / 10 == 0) refl (many_onto k (n / 10) (digit_glyph false (n % 10) ∷ acc) fewer)
  where
    fewer : 10 ^ k ≤ n / 10
    fewer = let e = pow-suc 10 k in omega (arith, h, e)

    by : (t : Bool) → (n / 10 == 0) ≡ t → length (digits_onto k 10 false (n / 10) (digit_glyph false (n % 10) ∷ acc)) ≡ k + suc (length acc)
        → length (cond t (digit_glyph false (n % 10) ∷ acc) (digits_onto k 10 false (n / 10) (digit_glyph false (n % 10) ∷ acc))) ≡ suc k + length acc
    by true e again = let none : n / 10 ≡ 0 = grind (arith, nat_tests) in let some = power_some k in absurd (omega (arith, none, some, fewer))
    by false e again = omega (arith, again)

great_is_long : (n : ℕ) → 10 ^ 64 ≤ n → length (decimal n) ≡ 64
unfolding digits
great_is_long n h = let e = many_onto 64 n [] h in omega (arith, e)

-- a number that is small is the only one with its digits
pub decimal_is : (n m : ℕ) → m < 2 ^ 64 → decimal n ≡ decimal m → n ≡ m
decimal_is n m small e = by (cases_lt n (10 ^ 64))
  where
    by : (n < 10 ^ 64) ⊎ (10 ^ 64 ≤ n) → n ≡ m
    by (inl low) = sym (decimal_is_IsNumeral_wide n low).1 ∙ (ap (digits_value 10) e ∙ (decimal_is_IsNumeral_wide m (omega (arith, small))).1)
    by (inr high) = absurd (let long = great_is_long n high in let short = length-decimal-le 20 m (omega arith) (omega (arith, small)) small in let same = ap length e in omega (arith, long, short, same))
