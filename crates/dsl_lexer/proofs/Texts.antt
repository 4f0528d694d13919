-- Which bytes are UTF-8, as a test, and which are ASCII.
use Rattle.std.proofs.Common.{◌≡◌, ℕ, zero, suc, ◌+◌, ◌==◌, ◌<◌, List, [], ◌∷◌, Bool, true, false, cond, take, drop, refl, sym, subst, arith}
use Rattle.std.proofs.Math.Seq.{take-add}
use Rattle.std.specs.Char.{is_ascii_digit}
use Rattle.std.specs.List.{prefix_len}
use Rattle.std.specs.Str.{IsUtf8, is_utf8, IsAscii}
use Rattle.std.proofs.lemmas.Bool.Decides.{nat_tests}
use Rattle.std.proofs.lemmas.Str.{IsUtf8-from_is_utf8, IsAscii-append}
use Rattle.std.proofs.lemmas.Str.Ascii.{IsAscii-nil}
use Rattle.dsl_lexer.specs.Letters.{is_name_byte}
use Rattle.dsl_lexer.specs.Steps.{pointed_len, fraction_len, number_len}

pub not_utf8 : (bs : List ℕ) → (IsUtf8 bs → ⊥) → is_utf8 bs ≡ false
not_utf8 bs h = by (is_utf8 bs) refl
  where
    by : (t : Bool) → is_utf8 bs ≡ t → t ≡ false
    by true e = absurd (h (IsUtf8-from_is_utf8 bs e))
    by false e = refl

ascii_joined : (n m : ℕ) (bs : List ℕ) → IsAscii (take n bs) → IsAscii (take m (drop n bs)) → IsAscii (take (n + m) bs)
ascii_joined n m bs h k = subst IsAscii (sym (take-add n m bs)) (IsAscii-append (take n bs) (take m (drop n bs)) h k)

byte_ascii : (b : ℕ) → b < 128 → IsAscii (b ∷ [])
byte_ascii b h zero = h
byte_ascii b h (suc i) = omega arith

run_ascii : (p : ℕ → Bool) → ((b : ℕ) → p b ≡ true → b < 128) → (bs : List ℕ) → IsAscii (take (prefix_len p bs) bs)
run_ascii p h [] = IsAscii-nil
run_ascii p h (b ∷ bs) = by (p b) refl (run_ascii p h bs)
  where
    by : (t : Bool) → p b ≡ t → IsAscii (take (prefix_len p bs) bs) → IsAscii (take (cond t (1 + prefix_len p bs) 0) (b ∷ bs))
    by true e k =
        let one : suc (prefix_len p bs) ≡ 1 + prefix_len p bs = omega arith in
        subst (λ n. IsAscii (take n (b ∷ bs))) one (IsAscii-append (b ∷ []) (take (prefix_len p bs) bs) (byte_ascii b (h b e)) k)
    by false e k = IsAscii-nil

digit_ascii : (b : ℕ) → is_ascii_digit b ≡ true → b < 128
digit_ascii b e = grind (arith, nat_tests)

pub name_ascii : (b : ℕ) → is_name_byte b ≡ true → b < 128
name_ascii b e = grind (arith, nat_tests)

pointed_some : (n : ℕ) → pointed_len (suc n) ≡ suc (suc n)
pointed_some n = grind (arith, nat_tests)

ascii_pointed : (n : ℕ) (bs : List ℕ) → IsAscii (take n bs) → IsAscii (take (pointed_len n) (46 ∷ bs))
ascii_pointed zero bs h = IsAscii-nil
ascii_pointed (suc n) bs h = subst (λ n. IsAscii (take n (46 ∷ bs))) (sym (pointed_some n)) (IsAscii-append (46 ∷ []) (take (suc n) bs) (byte_ascii 46 (omega arith)) h)

fraction_ascii : (bs : List ℕ) → IsAscii (take (fraction_len bs) bs)
fraction_ascii [] = IsAscii-nil
fraction_ascii (b ∷ bs) = by (b == 46) refl
  where
    by : (t : Bool) → (b == 46) ≡ t → IsAscii (take (cond t (pointed_len (prefix_len is_ascii_digit bs)) 0) (b ∷ bs))
    by true e =
        let at : 46 ≡ b = grind (arith, nat_tests) in
        subst (λ x. IsAscii (take (pointed_len (prefix_len is_ascii_digit bs)) (x ∷ bs))) at (ascii_pointed (prefix_len is_ascii_digit bs) bs (run_ascii is_ascii_digit digit_ascii bs))
    by false e = IsAscii-nil

pub number_ascii : (bs : List ℕ) → IsAscii (take (number_len bs) bs)
number_ascii bs =
    let whole = prefix_len is_ascii_digit bs in
    let behind = whole + fraction_len (drop whole bs) in
    ascii_joined behind (prefix_len is_name_byte (drop behind bs)) bs (ascii_joined whole (fraction_len (drop whole bs)) bs (run_ascii is_ascii_digit digit_ascii bs) (fraction_ascii (drop whole bs))) (run_ascii is_name_byte name_ascii (drop behind bs))
