-- Which parts of a text are UTF-8, cut at bytes below 128.
use Rattle.std.proofs.Common.{◌≡◌, ℕ, ◌+◌, ◌<◌, ◌≤◌, List, [], ◌∷◌, ◌++◌, length, take, drop, get_or, Bool, true, false, Result, Ok, Err, refl, sym, ap, ◌∙◌, subst, append_assoc, arith}
use Rattle.std.proofs.lemmas.List.{length-append, take-append-drop}
use Rattle.std.proofs.lemmas.Bool.Decides.{nat_tests}
use Rattle.std.proofs.lemmas.Str.{IsUtf8-append, IsUtf8-take, IsUtf8-drop, IsUtf8-from_ascii, IsUtf8-nil, IsCharBoundary-before_ascii, IsCharBoundary-after_ascii, IsCharBoundary-from_take, is_utf8-from_IsUtf8, byte_from_char, length-encode}
use Rattle.std.proofs.lemmas.Str.Ascii.{IsAscii-nil, IsAscii-cons}
use Rattle.std.specs.Char.{is_ascii, len_utf8}
use Rattle.std.specs.List.{list_all}
use Rattle.std.specs.Result.{MatchResult, is_ok}
use Rattle.std.specs.Str.{IsUtf8, is_utf8, IsAscii, encode_utf8_all}
use Rattle.std.specs.Prelude.{encode_utf8}
use Rattle.dsl_lexer.proofs.Bytes.{both_first, both_second, take_front, drop_front}
use Rattle.dsl_lexer.proofs.Texts.{not_utf8}

pub bytes_ascii : (p : ℕ → Bool) → ((b : ℕ) → p b ≡ true → b < 128) → (text : List ℕ) → list_all p text ≡ true → IsAscii text
bytes_ascii p h [] e = IsAscii-nil
bytes_ascii p h (b ∷ bs) e = IsAscii-cons b bs (h b (both_first (p b) (list_all p bs) e)) (bytes_ascii p h bs (both_second (p b) (list_all p bs) e))

pub byte_utf8 : (b : ℕ) → b < 128 → IsUtf8 (b ∷ [])
byte_utf8 b h = IsUtf8-from_ascii (b ∷ []) (IsAscii-cons b [] h IsAscii-nil)

short_char : (c : ℕ) → len_utf8 c ≤ 1 → c < 128
short_char c h = grind (arith, nat_tests)

one_byte : (b : ℕ) → IsUtf8 (b ∷ []) → b < 128
one_byte b u = by u.0 u.1.1
  where
    by : (cs : List ℕ) → encode_utf8_all cs ≡ b ∷ [] → b < 128
    by [] e = absurd cc
    by (c ∷ cs) e =
        let small : c < 128 = short_char c (omega (arith, ap length e, length-append (encode_utf8 c) (encode_utf8_all cs), length-encode c)) in
        let same : get_or (b ∷ []) 0 0 ≡ c = byte_from_char (b ∷ []) (encode_utf8_all cs) c (sym e) small in
        omega (arith, small, same)

-- a single byte is UTF-8 where it is below 128
single_byte : (b : ℕ) → is_ascii b ≡ is_utf8 (b ∷ [])
single_byte b = by (is_ascii b) refl
  where
    small : is_ascii b ≡ true → b < 128
    small e = grind (arith, nat_tests)

    large : is_ascii b ≡ false → 128 ≤ b
    large e = grind (arith, nat_tests)

    by : (t : Bool) → is_ascii b ≡ t → t ≡ is_utf8 (b ∷ [])
    by true e = sym (is_utf8-from_IsUtf8 (b ∷ []) (byte_utf8 b (small e)))
    by false e = sym (not_utf8 (b ∷ []) (λ u. absurd (omega (arith, one_byte b u, large e))))

-- the tests of one byte and of more
pub byte_test : (bs : List ℕ) → length bs ≡ 1 → is_ascii (get_or bs 0 0) ≡ is_utf8 bs
byte_test [] e = absurd (omega (arith, e))
byte_test (b ∷ []) e = single_byte b
byte_test (b ∷ c ∷ cs) e = absurd (omega (arith, e))

pub text_test : {A B : Type 0} (bs : List ℕ) (r : Result A B) {P : A → Type 0} {Q : B → Type 0} → ((a : A) → P a → IsUtf8 bs) → ((e : B) → Q e → IsUtf8 bs → ⊥) → MatchResult r P Q → is_ok r ≡ is_utf8 bs
text_test bs (Ok a) text other h = sym (is_utf8-from_IsUtf8 bs (text a h))
text_test bs (Err e) text other h = sym (not_utf8 bs (other e h))

seam : (xs ys : List ℕ) (b : ℕ) → get_or (xs ++ b ∷ ys) (length xs) 0 ≡ b
seam [] ys b = refl
seam (x ∷ xs) ys b = seam xs ys b

-- what stands before and behind a byte below 128 in a text
pub ascii_cut : (xs ys : List ℕ) (b : ℕ) → b < 128 → IsUtf8 (xs ++ b ∷ ys) → IsUtf8 xs × IsUtf8 ys
ascii_cut xs ys b small u =
    let at : get_or (xs ++ b ∷ ys) (length xs) 0 < 128 = omega (arith, seam xs ys b, small) in
    let within : length xs < length (xs ++ b ∷ ys) = omega (arith, length-append xs (b ∷ ys)) in
    let behind : drop (length xs + 1) (xs ++ b ∷ ys) ≡ ys = ap (drop (length xs + 1)) (sym (append_assoc xs (b ∷ []) ys)) ∙ drop_front (xs ++ b ∷ []) ys (length xs + 1) (omega (arith, length-append xs (b ∷ []))) in (
      subst IsUtf8 (take_front xs (b ∷ ys) (length xs) refl) (IsUtf8-take (xs ++ b ∷ ys) (length xs) u (IsCharBoundary-before_ascii (xs ++ b ∷ ys) (length xs) within at)),
      subst IsUtf8 behind (IsUtf8-drop (xs ++ b ∷ ys) (length xs + 1) u (IsCharBoundary-after_ascii (xs ++ b ∷ ys) (length xs) u within at)),
    )

-- either of two texts is UTF-8 where the other is
pub record Alike (xs ys : List ℕ) : Type 0 where
  pub forth : IsUtf8 xs → IsUtf8 ys
  pub back : IsUtf8 ys → IsUtf8 xs

pub alike_self : (xs : List ℕ) → Alike xs xs
alike_self xs = record { forth = λ u. u; back = λ u. u }

pub alike_end : (rest bytes : List ℕ) → length rest ≡ 0 → Alike rest bytes → IsUtf8 bytes
alike_end [] bytes none a = a.forth IsUtf8-nil
alike_end (b ∷ bs) bytes none a = absurd (omega (arith, none))

rest_utf8 : (text rest : List ℕ) → IsUtf8 text → IsUtf8 (text ++ rest) → IsUtf8 rest
rest_utf8 text rest u v =
    let within : length text ≤ length (text ++ rest) = omega (arith, length-append text rest) in
    subst IsUtf8 (drop_front text rest (length text) refl)
    (IsUtf8-drop (text ++ rest) (length text) v (IsCharBoundary-from_take (text ++ rest) (length text) v within (subst IsUtf8 (sym (take_front text rest (length text) refl)) u)))

-- behind a front that is UTF-8
pub alike_after : (bs front behind bytes : List ℕ) (n : ℕ) → front ≡ take n bs → behind ≡ drop n bs → IsUtf8 front → Alike bs bytes → Alike behind bytes
alike_after bs front behind bytes n ef eb u a =
    let whole : bs ≡ front ++ behind = sym (take-append-drop n bs) ∙ (ap (λ t. t ++ drop n bs) (sym ef) ∙ ap (λ t. front ++ t) (sym eb)) in
    record {
      forth = λ v. a.forth (subst IsUtf8 (sym whole) (IsUtf8-append front behind u v));
      back = λ v. rest_utf8 front behind u (subst IsUtf8 whole (a.back v));
    }
