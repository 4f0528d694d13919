-- What stands between quotes is UTF-8, where the text is.
use Rattle.std.proofs.Common.{◌≡◌, ℕ, ◌+◌, ◌/◌, ◌%◌, ◌<◌, ◌==◌, List, [], ◌∷◌, ◌++◌, Bool, true, false, cond, ◌||◌, nat_lt, refl, sym, ap, ◌∙◌, subst, append-nil, arith, encode_utf8, encode_utf8_all, inl, inr}
use Rattle.std.proofs.lemmas.Bool.{cases_lt}
use Rattle.std.proofs.lemmas.Bool.Decides.{nat_tests}
use Rattle.std.proofs.lemmas.Grind.{flat_map-append}
use Rattle.std.proofs.lemmas.Str.{IsUtf8-nil, IsUtf8-append, IsUtf8-encode, encode_ascii}
use Rattle.std.specs.Char.{IsScalar}
use Rattle.std.specs.List.{flat_map, list_all}
use Rattle.std.specs.Str.{IsUtf8}
use lib.Utf8.{scalar, scalars}
use Rattle.site_base.specs.Quoted.{octal, escaped, quoted}
use Rattle.site_base.proofs.Escapes.{escaped_encode_high}
use Rattle.site_audit.proofs.Bytes.{both_so, first_so, rest_so}
use Rattle.audit_laws.proofs.Fields.{small_utf8}

abbrev are_small : List ℕ → Bool
are_small bs = list_all (λ b. nat_lt b 128) bs

one_small : (b : ℕ) → b < 128 → are_small (b ∷ []) ≡ true
one_small b h = both_so (nat_lt b 128) true (let e : nat_lt b 128 ≡ true = grind (arith, nat_tests, h) in e) refl

more_small : (b : ℕ) (bs : List ℕ) → b < 128 → are_small bs ≡ true → are_small (b ∷ bs) ≡ true
more_small b bs h g = both_so (nat_lt b 128) (are_small bs) (let e : nat_lt b 128 ≡ true = grind (arith, nat_tests, h) in e) g

octal_small : (b : ℕ) → b < 128 → are_small (octal b) ≡ true
octal_small b h =
    more_small 92 ((48 + b / 64) ∷ (48 + b / 8 % 8) ∷ (48 + b % 8) ∷ []) (omega arith)
    (more_small (48 + b / 64) ((48 + b / 8 % 8) ∷ (48 + b % 8) ∷ []) (omega (arith, h)) (more_small (48 + b / 8 % 8) ((48 + b % 8) ∷ []) (omega arith) (one_small (48 + b % 8) (omega arith))))

escaped_small : (b : ℕ) → b < 128 → are_small (escaped b) ≡ true
escaped_small b h = by (b == 34) (b == 92) (b == 10) (b == 9) (b == 13) (nat_lt b 32 || b == 127)
  where
    by : (p q r s t u : Bool) → are_small (cond p (92 ∷ 34 ∷ []) (cond q (92 ∷ 92 ∷ []) (cond r (92 ∷ 110 ∷ []) (cond s (92 ∷ 116 ∷ []) (cond t (92 ∷ 114 ∷ []) (cond u (octal b) (b ∷ []))))))) ≡ true
    by true q r s t u = refl
    by false true r s t u = refl
    by false false true s t u = refl
    by false false false true t u = refl
    by false false false false true u = refl
    by false false false false false true = octal_small b h
    by false false false false false false = one_small b h

char_text : (c : ℕ) → IsScalar c → IsUtf8 (flat_map escaped (encode_utf8 c))
char_text c s = elim (cases_lt c 128) [ inl h ↦ low h | inr h ↦ subst IsUtf8 (sym (escaped_encode_high c h)) (IsUtf8-encode c s) ]
  where
    low : c < 128 → IsUtf8 (flat_map escaped (encode_utf8 c))
    low h =
        let is : flat_map escaped (encode_utf8 c) ≡ escaped c = ap (flat_map escaped) (encode_ascii c h) ∙ append-nil (escaped c) in
        subst IsUtf8 (sym is) (small_utf8 (escaped c) (escaped_small c h))

chars_text : (cs : List ℕ) → scalars cs ≡ true → IsUtf8 (flat_map escaped (encode_utf8_all cs))
chars_text [] s = IsUtf8-nil
chars_text (c ∷ cs) s =
    subst IsUtf8 (sym (flat_map-append escaped (encode_utf8 c) (encode_utf8_all cs)))
    (IsUtf8-append (flat_map escaped (encode_utf8 c)) (flat_map escaped (encode_utf8_all cs)) (char_text c (first_so (scalar c) (scalars cs) s)) (chars_text cs (rest_so (scalar c) (scalars cs) s)))

pub quoted_utf8 : (text : List ℕ) → IsUtf8 text → IsUtf8 (quoted text)
quoted_utf8 text u =
    let inner : IsUtf8 (flat_map escaped text) = subst (λ t. IsUtf8 (flat_map escaped t)) u.1.1 (chars_text u.0 u.1.0) in
    IsUtf8-append (34 ∷ []) (flat_map escaped text ++ 34 ∷ []) (small_utf8 (34 ∷ []) refl) (IsUtf8-append (flat_map escaped text) (34 ∷ []) inner (small_utf8 (34 ∷ []) refl))
