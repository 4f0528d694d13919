-- Characters at the ends of texts.
use Rattle.std.proofs.Common.{◌≡◌, ℕ, true, false, cond, List, [], ◌∷◌, ◌++◌, length, reverse, sym, ap, ◌∙◌, arith, append-nil}
use Rattle.std.specs.Prelude.{encode_utf8}
use Rattle.std.specs.Char.{IsScalar}
use Rattle.std.specs.Str.{chars, IsUtf8, encode_utf8_all}
use Rattle.std.proofs.lemmas.Str.{chars-nil, chars-append, chars_past_char, IsUtf8-encode, encodes-chars}
use Rattle.std.proofs.lemmas.List.{reverse-append, reverse-reverse}
use Rattle.dsl_lib.specs.Texts.{is_blank, skip_blanks, trimmed, by_chars}

pub no_chars : (bs : List ℕ) → length bs ≡ 0 → chars bs ≡ []
no_chars [] h = chars-nil
no_chars (b ∷ bs) h = absurd (omega (arith, h))

-- the last character of a text
pub chars_before_char : (bs front : List ℕ) (c : ℕ) → IsScalar c → IsUtf8 front → bs ≡ front ++ encode_utf8 c → chars bs ≡ chars front ++ c ∷ []
chars_before_char bs front c is u e =
    ap chars e ∙ chars-append front (encode_utf8 c) u ∙ ap (λ x. chars front ++ x) (chars_past_char (encode_utf8 c) [] c (IsUtf8-encode c is) (sym (append-nil (encode_utf8 c))) ∙ ap (λ x. c ∷ x) chars-nil)

-- a blank in front
pub skip_blank : (cs others : List ℕ) (c : ℕ) → cs ≡ c ∷ others → is_blank c ≡ true → skip_blanks others ≡ skip_blanks cs
skip_blank cs others c e b = sym (ap skip_blanks e ∙ ap (λ t. cond t (skip_blanks others) (c ∷ others)) b)

-- no blank in front
pub skip_none : (cs others : List ℕ) (c : ℕ) → cs ≡ c ∷ others → is_blank c ≡ false → cs ≡ skip_blanks cs
skip_none cs others c e b = e ∙ sym (ap skip_blanks e ∙ ap (λ t. cond t (skip_blanks others) (c ∷ others)) b)

reverse_last : (cs front : List ℕ) (c : ℕ) → cs ≡ front ++ c ∷ [] → reverse cs ≡ c ∷ reverse front
reverse_last cs front c e = ap reverse e ∙ reverse-append front (c ∷ [])

-- a blank at the end
pub skip_last : (cs front : List ℕ) (c : ℕ) → cs ≡ front ++ c ∷ [] → is_blank c ≡ true → skip_blanks (reverse front) ≡ skip_blanks (reverse cs)
skip_last cs front c e b = skip_blank (reverse cs) (reverse front) c (reverse_last cs front c e) b

-- no blank at the end
pub skip_no_last : (cs front all : List ℕ) (c : ℕ) → cs ≡ front ++ c ∷ [] → is_blank c ≡ false → skip_blanks (reverse cs) ≡ skip_blanks (reverse all) → cs ≡ reverse (skip_blanks (reverse all))
skip_no_last cs front all c e b h = sym (reverse-reverse cs) ∙ ap reverse (skip_none (reverse cs) (reverse front) c (reverse_last cs front c e) b ∙ h)

pub skip_all : (cs all : List ℕ) → cs ≡ [] → skip_blanks (reverse cs) ≡ skip_blanks (reverse all) → cs ≡ reverse (skip_blanks (reverse all))
skip_all cs all e h = e ∙ sym (ap reverse (sym h ∙ ap (λ x. skip_blanks (reverse x)) e))

pub whole_trimmed : (t s r : List ℕ) → IsUtf8 r → chars s ≡ skip_blanks (chars t) → chars r ≡ reverse (skip_blanks (reverse (chars s))) → r ≡ by_chars trimmed t
whole_trimmed t s r u es er = sym (encodes-chars r u) ∙ ap encode_utf8_all (er ∙ ap (λ x. reverse (skip_blanks (reverse x))) es)
