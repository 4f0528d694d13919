-- Moments and numbers, both ways.
use Rattle.std.proofs.Common.{◌≡◌, ℕ, ◌<◌, ◌≤◌, Bool, true, false, cond, ◌&&◌, nat_le, List, [], ◌∷◌, length, sym, refl, ap, ap₂, subst, ◌∙◌, arith, Option, Some, None, IfSome}
use Rattle.std.proofs.lemmas.Bool.Decides.{nat_tests}
use Rattle.std.specs.Char.{is_ascii_digit, digit_value}
use Rattle.std.specs.List.{list_all}
use Rattle.std.specs.Str.Parse.{AllDigits, digits_value}
use Rattle.arrayvec.specs.ArrayVec.{ArrayVec}
use Rattle.event_text.specs.Lent.{numbers_view}
use Rattle.event_text.specs.Numbers.{IsNumber, IsNumberWithin, AreNumbers, AreWithin, is_number, number_in, numbers_in, before}
use Rattle.event_text.specs.declared.limit.Limit.{Limit}

both : (a b : Bool) → (a && b) ≡ true → (a ≡ true) × (b ≡ true)
both true b e = (refl, e)
both false b e = cc

digit_is : (b : ℕ) → is_ascii_digit b ≡ true → digit_value b < 10
digit_is b e = grind (arith, nat_tests)

is_digit : (b : ℕ) → digit_value b < 10 → is_ascii_digit b ≡ true
is_digit b h = grind (arith, nat_tests)

pub digits_are : (bs : List ℕ) → list_all is_ascii_digit bs ≡ true → AllDigits 10 bs
digits_are [] e = tt
digits_are (b ∷ bs) e = let h = both (is_ascii_digit b) (list_all is_ascii_digit bs) e in (digit_is b h.0, digits_are bs h.1)

pub are_digits : (bs : List ℕ) → AllDigits 10 bs → list_all is_ascii_digit bs ≡ true
are_digits [] h = refl
are_digits (b ∷ bs) h = ap (λ t. t && list_all is_ascii_digit bs) (is_digit b h.0) ∙ are_digits bs h.1

pub number_is : (most : ℕ) (text : List ℕ) → is_number most text ≡ true → IsNumber most text
number_is most text e =
    let h = both (nat_le 1 (length text)) (nat_le (length text) most && list_all is_ascii_digit text) e in
    let g = both (nat_le (length text) most) (list_all is_ascii_digit text) h.1 in
    let some : 0 < length text = grind (arith, nat_tests, h.0) in
    let few : length text ≤ most = grind (arith, nat_tests, g.0) in
    record { digits = (some, digits_are text g.1); few = few }

pub is_number_found : (most : ℕ) (text : List ℕ) → IsNumber most text → is_number most text ≡ true
is_number_found most text h =
    let some : 0 < length text = h.digits.0 in
    let few : length text ≤ most = h.few in
    let one : nat_le 1 (length text) ≡ true = grind (arith, nat_tests) in
    let two : nat_le (length text) most ≡ true = grind (arith, nat_tests) in
    ap (λ t. t && (nat_le (length text) most && list_all is_ascii_digit text)) one
    ∙ (ap (λ t. t && list_all is_ascii_digit text) two ∙ are_digits text h.digits.1)

pub not_number : (most : ℕ) (text : List ℕ) → is_number most text ≡ false → IsNumber most text → ⊥
not_number most text e h = let found : is_number most text ≡ true = is_number_found most text h in cc

pub no_number : (most : ℕ) (text : List ℕ) → (IsNumber most text → ⊥) → is_number most text ≡ false
no_number most text h = by (is_number most text) refl
  where
    by : (t : Bool) → is_number most text ≡ t → is_number most text ≡ false
    by true e = absurd (h (number_is most text e))
    by false e = e

within_tests : (l : Limit) (text : List ℕ) (n : ℕ) (s t : Bool) → is_number l.digits text ≡ s → nat_le (digits_value 10 text) l.most ≡ t → cond (s && t) (Some (digits_value 10 text)) None ≡ Some n → IsNumberWithin l text n
within_tests l text n true true h g e =
    let value : digits_value 10 text ≡ n = cc in
    let low : digits_value 10 text ≤ l.most = grind (arith, nat_tests) in
    record { number = number_is l.digits text h; value = value; within = omega arith }
within_tests l text n true false h g e = cc
within_tests l text n false t h g e = cc

pub number_sound : (l : Limit) (text : List ℕ) (n : ℕ) → number_in l text ≡ Some n → IsNumberWithin l text n
unfolding number_in
number_sound l text n e = within_tests l text n (is_number l.digits text) (nat_le (digits_value 10 text) l.most) refl refl e

pub number_complete : (l : Limit) (text : List ℕ) (n : ℕ) → IsNumberWithin l text n → number_in l text ≡ Some n
unfolding number_in
number_complete l text n h =
    let low : nat_le (digits_value 10 text) l.most ≡ true = (let value = h.value in let within = h.within in grind (arith, nat_tests)) in
    ap (λ t. cond (t && nat_le (digits_value 10 text) l.most) (Some (digits_value 10 text)) None) (is_number_found l.digits text h.number)
    ∙ (ap (λ t. cond t (Some (digits_value 10 text)) None) low ∙ ap Some h.value)

-- several of them
pub numbers_sound : (ls : List Limit) (ts : List (List ℕ)) (ns : List ℕ) → numbers_in ls ts ≡ Some ns → AreNumbers ls ts ns
numbers_sound [] ts ns e = let is : [] ≡ ns = cc in subst (λ n. AreNumbers [] ts n) is tt
numbers_sound (l ∷ ls) [] ns e = cc
numbers_sound (l ∷ ls) (t ∷ ts) ns e = by (λ ms g. numbers_sound ls ts ms g) (number_in l t) refl (numbers_in ls ts) refl e
  where
    by : ((ms : List ℕ) → numbers_in ls ts ≡ Some ms → AreNumbers ls ts ms) → (q : Option ℕ) → number_in l t ≡ q → (r : Option (List ℕ)) → numbers_in ls ts ≡ r → before q r ≡ Some ns → AreNumbers (l ∷ ls) (t ∷ ts) ns
    by again None h r g e = cc
    by again (Some n) h None g e = cc
    by again (Some n) h (Some ms) g e = let is : n ∷ ms ≡ ns = cc in subst (λ x. AreNumbers (l ∷ ls) (t ∷ ts) x) is (number_sound l t n h, again ms g)

pub numbers_complete : (ls : List Limit) (ts : List (List ℕ)) (ns : List ℕ) → AreNumbers ls ts ns → numbers_in ls ts ≡ Some ns
numbers_complete [] ts [] h = refl
numbers_complete [] ts (n ∷ ns) h = absurd h
numbers_complete (l ∷ ls) [] ns h = absurd h
numbers_complete (l ∷ ls) (t ∷ ts) [] h = absurd h
numbers_complete (l ∷ ls) (t ∷ ts) (n ∷ ns) h = ap₂ before (number_complete l t n h.0) (numbers_complete ls ts ns h.1)

pub no_numbers : (ls : List Limit) (ts : List (List ℕ)) → ((ns : List ℕ) → AreNumbers ls ts ns → ⊥) → numbers_in ls ts ≡ None
no_numbers ls ts h = by (numbers_in ls ts) refl
  where
    by : (r : Option (List ℕ)) → numbers_in ls ts ≡ r → numbers_in ls ts ≡ None
    by None e = e
    by (Some ns) e = absurd (h ns (numbers_sound ls ts ns e))

pub numbers_lack : (ls : List Limit) (ts : List (List ℕ)) → numbers_in ls ts ≡ None → (ns : List ℕ) → AreNumbers ls ts ns → ⊥
numbers_lack ls ts e ns h = let found : numbers_in ls ts ≡ Some ns = numbers_complete ls ts ns h in cc

-- what is read is within the limits
all_within : (ls : List Limit) (ts : List (List ℕ)) (ns : List ℕ) → AreNumbers ls ts ns → AreWithin ls ns
all_within [] ts [] h = tt
all_within [] ts (n ∷ ns) h = absurd h
all_within (l ∷ ls) [] ns h = absurd h
all_within (l ∷ ls) (t ∷ ts) [] h = absurd h
all_within (l ∷ ls) (t ∷ ts) (n ∷ ns) h = (h.0.within, all_within ls ts ns h.1)

pub numbers_within : (ls : List Limit) (ts : List (List ℕ)) (ns : List ℕ) → numbers_in ls ts ≡ Some ns → AreWithin ls ns
numbers_within ls ts ns e = all_within ls ts ns (numbers_sound ls ts ns e)

-- the same of what a call gave
pub within_some : (ls : List Limit) (ts : List (List ℕ)) (r : Option (ArrayVec ℕ)) → numbers_view r ≡ numbers_in ls ts → IfSome r (λ v. AreWithin ls v.items)
within_some ls ts None h = tt
within_some ls ts (Some v) h = numbers_within ls ts v.items (sym h)
