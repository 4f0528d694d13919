-- What digits stand for.
use Rattle.std.proofs.Common.{◌≡◌, ℕ, suc, ◌+◌, ◌-◌, ◌*◌, ◌/◌, ◌%◌, ◌^◌, ◌<◌, ◌≤◌, List, [], ◌∷◌, ◌++◌, length, get_or, take, drop, arith, ap, sym, ◌∙◌, refl, subst}
use Rattle.std.proofs.lemmas.Int.Digits.{digits_value_more}
use Rattle.std.proofs.lemmas.Str.Parse.{digits_value-take-le, digit_at}
use Rattle.std.proofs.lemmas.Bool.Decides.{nat_tests}
use Rattle.std.proofs.lemmas.List.{drop_more}
use Rattle.std.proofs.Math.Nat.{pow-suc, one-le-pow, mul-div_cancel, mul-le-mul_right}
use Rattle.std.proofs.lemmas.Nat.{pow-add}
use Rattle.std.proofs.lemmas.List.{length-drop, get_or-take, length-take-le, take-append-drop, take-take}
use Rattle.std.specs.Char.{digit_value}
use Rattle.std.specs.Str.Parse.{AllDigits, digits_value, digits_value_after}

pub digit_is : (d : ℕ) → 48 ≤ d → d ≤ 57 → digit_value d ≡ d - 48
digit_is d low high = grind (arith, nat_tests)

pub value_at : (ds : List ℕ) (i : ℕ) → AllDigits 10 ds → i < length ds → digit_value (get_or ds i 0) ≡ get_or ds i 0 - 48
value_at ds i h l = let r = digit_at ds i h l in digit_is _ (omega arith) (omega arith)

-- one more digit
pub value_more : (ds : List ℕ) (i : ℕ) → AllDigits 10 ds → i < length ds → digits_value 10 (take (i + 1) ds) ≡ digits_value 10 (take i ds) * 10 + (get_or ds i 0 - 48)
value_more ds i h l = digits_value_more 10 ds i l ∙ ap (λ d. digits_value 10 (take i ds) * 10 + d) (value_at ds i h l)

-- digits that follow those of a number
after_step : (n v p r : ℕ) → (n * 10 + v) * p + r ≡ n * (p * 10) + ((0 * 10 + v) * p + r)
after_step n v p r = omega arith

value_after : (n : ℕ) (ds : List ℕ) → digits_value_after 10 n ds ≡ n * 10 ^ length ds + digits_value_after 10 0 ds
value_after n [] = omega arith
value_after n (d ∷ ds) =
    value_after (n * 10 + digit_value d) ds
    ∙ after_step n (digit_value d) (10 ^ length ds) (digits_value_after 10 0 ds)
    ∙ ap (λ q. n * q + ((0 * 10 + digit_value d) * 10 ^ length ds + digits_value_after 10 0 ds)) (sym (pow-suc 10 (length ds)))
    ∙ ap (λ r. n * 10 ^ suc (length ds) + r) (sym (value_after (0 * 10 + digit_value d) ds))

after_append : (n : ℕ) (xs ys : List ℕ) → digits_value_after 10 n (xs ++ ys) ≡ digits_value_after 10 (digits_value_after 10 n xs) ys
after_append n [] ys = refl
after_append n (x ∷ xs) ys = after_append (n * 10 + digit_value x) xs ys

pub value_append : (xs ys : List ℕ) → digits_value 10 (xs ++ ys) ≡ digits_value 10 xs * 10 ^ length ys + digits_value 10 ys
value_append xs ys = after_append 0 xs ys ∙ value_after (digits_value 10 xs) ys

pub value_cons : (d : ℕ) (ds : List ℕ) → digits_value 10 (d ∷ ds) ≡ digit_value d * 10 ^ length ds + digits_value 10 ds
value_cons d ds = value_after (0 * 10 + digit_value d) ds ∙ omega arith

pub cancel : (x y p : ℕ) → 1 ≤ p → x * p ≡ y * p → x ≡ y
cancel x y p h e = sym (mul-div_cancel x {n = p} (omega arith)) ∙ ap (λ z. z / p) e ∙ mul-div_cancel y {n = p} (omega arith)

pub ten_power : (k : ℕ) → 1 ≤ 10 ^ k
ten_power k = one-le-pow k 10 (omega arith)

-- From the end: the digits of a list from a place on.

-- the last one in front of a place
pub last_of_front : (front all : List ℕ) → AllDigits 10 all → front ≡ take (length front) all → length front ≤ length all → 1 ≤ length front → get_or front (length front - 1) 0 ≡ get_or all (length front - 1) 0
last_of_front front all h e m l =
    let lt : length front - 1 < length front = omega arith in
    ap (λ ds. get_or ds (length front - 1) 0) e ∙ get_or-take (length front) all (length front - 1) 0 lt

pub last_in_range : (front all : List ℕ) → AllDigits 10 all → front ≡ take (length front) all → length front ≤ length all → 1 ≤ length front → (48 ≤ get_or front (length front - 1) 0) × (get_or front (length front - 1) 0 ≤ 57)
last_in_range front all h e m l =
    let r = digit_at all (length front - 1) h (omega arith) in
    let s = last_of_front front all h e m l in
    (omega arith, omega arith)

pub value_drop : (ds : List ℕ) (i : ℕ) → AllDigits 10 ds → i < length ds → digits_value 10 (drop i ds) ≡ (get_or ds i 0 - 48) * 10 ^ length (drop (i + 1) ds) + digits_value 10 (drop (i + 1) ds)
value_drop ds i h l = ap (digits_value 10) (drop_more ds i 0 l) ∙ value_cons (get_or ds i 0) (drop (i + 1) ds) ∙ ap (λ d. d * 10 ^ length (drop (i + 1) ds) + digits_value 10 (drop (i + 1) ds)) (value_at ds i h l)

pub length_drop : (all : List ℕ) (i : ℕ) → i < length all → length (drop i all) ≡ suc (length (drop (i + 1) all))
length_drop all i l = ap length (drop_more all i 0 l)

power_drop : (all : List ℕ) (i : ℕ) → i < length all → 10 ^ length (drop i all) ≡ 10 ^ length (drop (i + 1) all) * 10
power_drop all i l = ap (λ k. 10 ^ k) (length_drop all i l) ∙ pow-suc 10 (length (drop (i + 1) all))

-- one digit more, times the size
sum_step : (v size part sum p r w : ℕ) → part * p ≡ r * size → sum ≡ v * size + part → w ≡ v * p + r → sum * p ≡ w * size
sum_step v size part sum p r w e s f =
    let k : (v * size + part) * p ≡ (v * p + r) * size = omega (arith, e) in
    ap (λ z. z * p) s ∙ k ∙ ap (λ z. z * size) (sym f)

pub sum_at : (all : List ℕ) (i size part sum : ℕ) → AllDigits 10 all → i < length all → part * 10 ^ length (drop (i + 1) all) ≡ digits_value 10 (drop (i + 1) all) * size → sum ≡ (get_or all i 0 - 48) * size + part → sum * 10 ^ length (drop (i + 1) all) ≡ digits_value 10 (drop i all) * size
sum_at all i size part sum h l e s = sum_step (get_or all i 0 - 48) size part sum (10 ^ length (drop (i + 1) all)) (digits_value 10 (drop (i + 1) all)) _ e s (value_drop all i h l)

-- a tenth of the sum is the new part
tenth_step : (sum q p p' w : ℕ) → sum ≡ q * 10 → p' ≡ p * 10 → sum * p ≡ w → q * p' ≡ w
tenth_step sum q p p' w s f e =
    let k : q * (p * 10) ≡ (q * 10) * p = omega arith in
    ap (λ z. q * z) f ∙ k ∙ ap (λ z. z * p) (sym s) ∙ e

pub part_at : (all : List ℕ) (i size sum : ℕ) → i < length all → sum * 10 ^ length (drop (i + 1) all) ≡ digits_value 10 (drop i all) * size → sum % 10 ≡ 0 → (sum / 10) * 10 ^ length (drop i all) ≡ digits_value 10 (drop i all) * size
part_at all i size sum l e z = tenth_step sum (sum / 10) _ _ _ (omega arith) (power_drop all i l) e

-- where the sum has no whole tenth, the digits together are nothing whole
whole_step : (n a d size t p p' q v sum : ℕ) → 1 ≤ p → n * q ≡ v * size → q ≡ t * p' → p' ≡ p * 10 → v ≡ a * p' + d → sum * p ≡ d * size → sum % 10 ≡ 0
whole_step n a d size t p p' q v sum one f fq fp fv e =
    let k : n * t * 10 * p ≡ n * (t * (p * 10)) = omega arith in
    let m : (a * (p * 10) + d) * size ≡ (a * size * 10 + sum) * p = omega (arith, e) in
    let whole : n * t * 10 * p ≡ (a * size * 10 + sum) * p =
    k ∙ ap (λ z. n * (t * z)) (sym fp) ∙ ap (λ z. n * z) (sym fq) ∙ f ∙ ap (λ z. z * size) fv ∙ ap (λ z. (a * z + d) * size) fp ∙ m in
    let c : n * t * 10 ≡ a * size * 10 + sum = cancel _ _ p one whole in
    omega (arith, c)

pub no_part : (all : List ℕ) (i size sum n : ℕ) → i < length all → sum * 10 ^ length (drop (i + 1) all) ≡ digits_value 10 (drop i all) * size → n * 10 ^ length all ≡ digits_value 10 all * size → sum % 10 ≡ 0
no_part all i size sum n l e f =
    let split : take i all ++ drop i all ≡ all = take-append-drop i all in
    let long : length all ≡ i + length (drop i all) = omega (arith, length-drop i all) in
    whole_step n (digits_value 10 (take i all)) (digits_value 10 (drop i all)) size (10 ^ i) (10 ^ length (drop (i + 1) all)) (10 ^ length (drop i all)) (10 ^ length all) (digits_value 10 all) sum
    (ten_power _) f (ap (λ k. 10 ^ k) long ∙ pow-add 10 i (length (drop i all))) (power_drop all i l)
    (ap (digits_value 10) (sym split) ∙ value_append (take i all) (drop i all)) e

-- What the digits behind the point give so far: `front` are those still to come, from the last on.
pub record IsPart (all front : List ℕ) (size part : ℕ) : Type 0 where
  pub front_of : front ≡ take (length front) all
  pub most : length front ≤ length all
  pub whole : part * 10 ^ length (drop (length front) all) ≡ digits_value 10 (drop (length front) all) * size
  pub within : part ≤ size

part_sum : (front all : List ℕ) (size part d : ℕ) → IsPart all front size part → AllDigits 10 all → 1 ≤ length front → d ≡ get_or front (length front - 1) 0 - 48 → (d * size + part) * 10 ^ length (drop (length front - 1 + 1) all) ≡ digits_value 10 (drop (length front - 1) all) * size
part_sum front all size part d p h l e =
    let back : length front ≡ length front - 1 + 1 = omega arith in
    let here : d ≡ get_or all (length front - 1) 0 - 48 = e ∙ ap (λ b. b - 48) (last_of_front front all h p.front_of p.most l) in
    sum_at all (length front - 1) size part (d * size + part) h (omega (arith, p.most))
    (subst (λ k. part * 10 ^ length (drop k all) ≡ digits_value 10 (drop k all) * size) back p.whole)
    (ap (λ v. v * size + part) here)

pub part_none : (front all : List ℕ) (size part d n : ℕ) → IsPart all front size part → AllDigits 10 all → 1 ≤ length front → d ≡ get_or front (length front - 1) 0 - 48 → n * 10 ^ length all ≡ digits_value 10 all * size → (d * size + part) % 10 ≡ 0
part_none front all size part d n p h l e f = no_part all (length front - 1) size (d * size + part) n (omega (arith, p.most)) (part_sum front all size part d p h l e) f

pub part_more : (front all : List ℕ) (size part d : ℕ) → IsPart all front size part → AllDigits 10 all → 1 ≤ length front → d ≡ get_or front (length front - 1) 0 - 48 → (d * size + part) % 10 ≡ 0 → IsPart all (take (length front - 1) front) size ((d * size + part) / 10)
part_more front all size part d p h l e z =
    let n : length (take (length front - 1) front) ≡ length front - 1 = length-take-le (length front - 1) front (omega arith) in
    let r = last_in_range front all h p.front_of p.most l in
    let most : length front ≤ length all = p.most in
    let nine : d * size ≤ 9 * size = mul-le-mul_right size (omega (arith, r.0, r.1, e)) in
    record {
      front_of = ap (take (length front - 1)) p.front_of ∙ take-take (length front - 1) (length front) all (omega arith) ∙ ap (λ k. take k all) (sym n);
      most = omega (arith, n, most);
      whole = subst (λ k. (d * size + part) / 10 * 10 ^ length (drop k all) ≡ digits_value 10 (drop k all) * size) (sym n) (part_at all (length front - 1) size (d * size + part) (omega (arith, most)) (part_sum front all size part d p h l e) z);
      within = omega (arith, nine, p.within);
    }

pub digit_in_range : (ds : List ℕ) (i : ℕ) → AllDigits 10 ds → i < length ds → (48 ≤ get_or ds i 0) × (get_or ds i 0 ≤ 57)
digit_in_range ds i h l = let r = digit_at ds i h l in (omega arith, omega arith)

-- the digits up to a place make no more than all
pub value_most : (ds : List ℕ) (i : ℕ) → digits_value 10 (take i ds) ≤ digits_value 10 ds
value_most ds i = digits_value-take-le 10 ds i (omega arith)
