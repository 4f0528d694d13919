-- Pieces joined by the separator that they were cut at.
use Rattle.std.proofs.Common.{◌≡◌, ℕ, Bool, true, false, cond, List, [], ◌∷◌, ◌++◌, length, map, refl, sym, ap, ◌∙◌, arith, append_assoc, append-nil}
use Rattle.std.specs.Prelude.{encode_utf8}
use Rattle.std.specs.Char.{IsScalar}
use Rattle.std.specs.Str.{chars, IsUtf8, encode_utf8_all}
use Rattle.std.specs.List.{slice_split, onto_first, flat_map}
use Rattle.std.proofs.lemmas.List.Splits.{length-slice_split}
use Rattle.std.proofs.lemmas.Str.{chars-nil, chars_past_char, encodes-chars, IsUtf8-encode}
use Rattle.std.proofs.lemmas.Bool.Decides.{nat_tests}
use Rattle.dsl_lib.specs.Arrays.{joined}
use Rattle.dsl_lib.specs.Texts.{is_among, pieces}

one_char : (c : ℕ) → IsScalar c → chars (encode_utf8 c) ≡ c ∷ []
one_char c is = chars_past_char (encode_utf8 c) [] c (IsUtf8-encode c is) (sym (append-nil (encode_utf8 c))) ∙ ap (λ x. c ∷ x) chars-nil

same_char : (c d : ℕ) → is_among (c ∷ []) d ≡ true → d ≡ c
same_char c d h = grind (arith, nat_tests)

join_pieces : List ℕ → List (List ℕ) → List ℕ
join_pieces separator ps = joined separator (map encode_utf8_all ps)

joins_by : (c d : ℕ) (ds : List ℕ) (test : Bool) (ps : List (List ℕ)) → is_among (c ∷ []) d ≡ test → slice_split (is_among (c ∷ [])) ds ≡ ps → joined (encode_utf8 c) (map encode_utf8_all ps) ≡ encode_utf8_all ds
    → joined (encode_utf8 c) (map encode_utf8_all (cond test ([] ∷ ps) (onto_first d ps))) ≡ encode_utf8 d ++ encode_utf8_all ds
joins_by c d ds test [] e s h = absurd (omega (arith, ap length s, length-slice_split (is_among (c ∷ [])) ds))
joins_by c d ds true (p ∷ ps) e s h = append_assoc (encode_utf8 c) (encode_utf8_all p) (flat_map (λ y. encode_utf8 c ++ y) (map encode_utf8_all ps)) ∙ ap (λ x. encode_utf8 c ++ x) h ∙ ap (λ x. encode_utf8 x ++ encode_utf8_all ds) (sym (same_char c d e))
joins_by c d ds false (p ∷ ps) e s h = append_assoc (encode_utf8 d) (encode_utf8_all p) (flat_map (λ y. encode_utf8 c ++ y) (map encode_utf8_all ps)) ∙ ap (λ x. encode_utf8 d ++ x) h

joins : (c : ℕ) (cs : List ℕ) → joined (encode_utf8 c) (map encode_utf8_all (slice_split (is_among (c ∷ [])) cs)) ≡ encode_utf8_all cs
joins c [] = refl
joins c (d ∷ ds) = joins_by c d ds (is_among (c ∷ []) d) (slice_split (is_among (c ∷ [])) ds) refl refl (joins c ds)

-- they give the text back
pub pieces_join : (t : List ℕ) (c : ℕ) → IsUtf8 t → IsScalar c → joined (encode_utf8 c) (pieces t (encode_utf8 c)) ≡ t
pieces_join t c u is = ap (λ s. joined (encode_utf8 c) (map encode_utf8_all (slice_split (is_among s) (chars t)))) (one_char c is) ∙ joins c (chars t) ∙ encodes-chars t u
