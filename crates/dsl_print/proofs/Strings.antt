-- The print of a string stands for the string, and is UTF-8.
use Rattle.std.proofs.Common.{◌≡◌, ℕ, ◌+◌, ◌*◌, ◌-◌, ◌/◌, ◌%◌, ◌<◌, ◌≤◌, ◌==◌, List, [], ◌∷◌, ◌++◌, Bool, true, false, cond, ◌&&◌, ◌||◌, not, nat_lt, refl, sym, ap, ◌∙◌, subst, append_assoc, append-nil, arith, encode_utf8, encode_utf8_all, Some, inl, inr}
use Rattle.std.proofs.lemmas.Bool.{cases_lt}
use Rattle.std.proofs.lemmas.Bool.Decides.{nat_tests}
use Rattle.std.proofs.lemmas.Grind.{flat_map-append}
use Rattle.std.proofs.lemmas.Str.{IsUtf8-nil, IsUtf8-from_ascii, IsUtf8-append, IsUtf8-encode, IsAscii-append, encode_ascii}
use Rattle.std.specs.Char.{IsScalar}
use Rattle.std.specs.List.{flat_map}
use Rattle.std.specs.Str.{IsUtf8, IsAscii}
use lib.Utf8.{scalar, scalars}
use Rattle.site_base.specs.Quoted.{octal, escaped, quoted}
use Rattle.site_base.proofs.Escapes.{escaped_encode_high}
use Rattle.dsl_lexer.specs.Letters.{is_octal}
use Rattle.dsl_lexer.specs.Tokens.{Way, plain, escape, octal as in_octal, IsWritten, IsInside, quotes, IsString}
use Rattle.dsl_lexer.proofs.Bytes.{both_first, both_second}
use Rattle.dsl_print.proofs.Ascii.{byte_ascii}

-- a byte as it is written, and the way in which it is
abbrev Written : List ℕ → List ℕ → ℕ → Type 0
Written text rest b = (way : Way) × IsWritten way text rest b

-- a small number is written as an octal digit
octal_digit : (q : ℕ) → q ≤ 7 → is_octal (48 + q) ≡ true
octal_digit q h = grind (arith, nat_tests)

-- a byte of ASCII stands for itself as three octal digits
octal_way : (b : ℕ) (rest : List ℕ) → b < 128 → Written (octal b) rest b
octal_way b rest h =
    let value : b ≡ (((48 + b / 64) - 48) * 8 + ((48 + b / 8 % 8) - 48)) * 8 + ((48 + b % 8) - 48) = omega arith in
    (in_octal ((48 + b / 64) ∷ (48 + b / 8 % 8) ∷ (48 + b % 8) ∷ []), (refl, (octal_digit (b / 64) (omega arith), octal_digit (b / 8 % 8) (omega arith), octal_digit (b % 8) (omega arith), value, h)))

-- each byte is written in some way
escaped_way : (b : ℕ) (rest : List ℕ) → Written (escaped b) rest b
escaped_way b rest = by (b == 34) (b == 92) (b == 10) (b == 9) (b == 13) (nat_lt b 32 || b == 127) refl refl refl refl refl refl
  where
    by : (p q r s t u : Bool) → (b == 34) ≡ p → (b == 92) ≡ q → (b == 10) ≡ r → (b == 9) ≡ s → (b == 13) ≡ t → (nat_lt b 32 || b == 127) ≡ u
        → Written (cond p (92 ∷ 34 ∷ []) (cond q (92 ∷ 92 ∷ []) (cond r (92 ∷ 110 ∷ []) (cond s (92 ∷ 116 ∷ []) (cond t (92 ∷ 114 ∷ []) (cond u (octal b) (b ∷ []))))))) rest b
    by true q r s t u hp hq hr hs ht hu = (escape 34, (refl, let is : 34 ≡ b = grind (arith, nat_tests) in ap Some is))
    by false true r s t u hp hq hr hs ht hu = (escape 92, (refl, let is : 92 ≡ b = grind (arith, nat_tests) in ap Some is))
    by false false true s t u hp hq hr hs ht hu = (escape 110, (refl, let is : 10 ≡ b = grind (arith, nat_tests) in ap Some is))
    by false false false true t u hp hq hr hs ht hu = (escape 116, (refl, let is : 9 ≡ b = grind (arith, nat_tests) in ap Some is))
    by false false false false true u hp hq hr hs ht hu = (escape 114, (refl, let is : 13 ≡ b = grind (arith, nat_tests) in ap Some is))
    by false false false false false true hp hq hr hs ht hu = octal_way b rest (let low : b < 128 = grind (arith, nat_tests) in low)
    by false false false false false false hp hq hr hs ht hu =
        (plain, (refl, ap (λ x. not x && not (b == 34) && not (b == 92)) hr ∙ (ap (λ x. not x && not (b == 92)) hp ∙ ap not hq)))

-- a string stands for itself behind the opening quote
inside : (s : List ℕ) → IsInside (flat_map escaped s ++ 34 ∷ []) s
inside [] = refl
inside (b ∷ bs) =
    let w = escaped_way b (flat_map escaped bs ++ 34 ∷ []) in
    (w.0, escaped b, flat_map escaped bs ++ 34 ∷ [], append_assoc (escaped b) (flat_map escaped bs) (34 ∷ []), w.1, inside bs)

-- a string stands in its print
pub quoted_string : (s : List ℕ) → IsString quotes (quoted s) s
quoted_string s = (flat_map escaped s ++ 34 ∷ [], refl, inside s)

-- two bytes of ASCII
two_ascii : (b c : ℕ) → b < 128 → c < 128 → IsAscii (b ∷ c ∷ [])
two_ascii b c h k = IsAscii-append (b ∷ []) (c ∷ []) (byte_ascii b h) (byte_ascii c k)

-- a backslash and octal digits are ASCII
octal_ascii : (b : ℕ) → b < 128 → IsAscii (octal b)
octal_ascii b h =
    IsAscii-append (92 ∷ (48 + b / 64) ∷ []) ((48 + b / 8 % 8) ∷ (48 + b % 8) ∷ []) (two_ascii 92 (48 + b / 64) (omega arith) (omega arith)) (two_ascii (48 + b / 8 % 8) (48 + b % 8) (omega arith) (omega arith))

-- a byte of ASCII is written with bytes of ASCII
escaped_ascii : (b : ℕ) → b < 128 → IsAscii (escaped b)
escaped_ascii b h = by (b == 34) (b == 92) (b == 10) (b == 9) (b == 13) (nat_lt b 32 || b == 127)
  where
    by : (p q r s t u : Bool) → IsAscii (cond p (92 ∷ 34 ∷ []) (cond q (92 ∷ 92 ∷ []) (cond r (92 ∷ 110 ∷ []) (cond s (92 ∷ 116 ∷ []) (cond t (92 ∷ 114 ∷ []) (cond u (octal b) (b ∷ [])))))))
    by true q r s t u = two_ascii 92 34 (omega arith) (omega arith)
    by false true r s t u = two_ascii 92 92 (omega arith) (omega arith)
    by false false true s t u = two_ascii 92 110 (omega arith) (omega arith)
    by false false false true t u = two_ascii 92 116 (omega arith) (omega arith)
    by false false false false true u = two_ascii 92 114 (omega arith) (omega arith)
    by false false false false false true = octal_ascii b h
    by false false false false false false = byte_ascii b h

-- a character is written as UTF-8
char_utf8 : (c : ℕ) → IsScalar c → IsUtf8 (flat_map escaped (encode_utf8 c))
char_utf8 c s = elim (cases_lt c 128) [ inl h ↦ low h | inr h ↦ subst IsUtf8 (sym (escaped_encode_high c h)) (IsUtf8-encode c s) ]
  where
    low : c < 128 → IsUtf8 (flat_map escaped (encode_utf8 c))
    low h =
        let is : flat_map escaped (encode_utf8 c) ≡ escaped c = ap (flat_map escaped) (encode_ascii c h) ∙ append-nil (escaped c) in
        subst IsUtf8 (sym is) (IsUtf8-from_ascii (escaped c) (escaped_ascii c h))

-- and so are several
chars_utf8 : (cs : List ℕ) → scalars cs ≡ true → IsUtf8 (flat_map escaped (encode_utf8_all cs))
chars_utf8 [] s = IsUtf8-nil
chars_utf8 (c ∷ cs) s =
    subst IsUtf8 (sym (flat_map-append escaped (encode_utf8 c) (encode_utf8_all cs)))
    (IsUtf8-append (flat_map escaped (encode_utf8 c)) (flat_map escaped (encode_utf8_all cs)) (char_utf8 c (both_first (scalar c) (scalars cs) s)) (chars_utf8 cs (both_second (scalar c) (scalars cs) s)))

-- and the print of a string of characters is UTF-8
pub quoted_utf8 : (s : List ℕ) → IsUtf8 s → IsUtf8 (quoted s)
quoted_utf8 s u =
    let quote : IsUtf8 (34 ∷ []) = IsUtf8-from_ascii (34 ∷ []) (byte_ascii 34 (omega arith)) in
    let inner : IsUtf8 (flat_map escaped s) = subst (λ t. IsUtf8 (flat_map escaped t)) u.1.1 (chars_utf8 u.0 u.1.0) in
    IsUtf8-append (34 ∷ []) (flat_map escaped s ++ 34 ∷ []) quote (IsUtf8-append (flat_map escaped s) (34 ∷ []) inner quote)
