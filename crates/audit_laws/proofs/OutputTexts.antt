-- What the output of a check tells are texts, whatever bytes it is.
use Rattle.std.proofs.Common.{◌≡◌, ◌≤◌, ◌<◌, ◌+◌, ◌-◌, ◌==◌, ℕ, zero, suc, nat_lt, not, cond, Bool, true, false, List, [], ◌∷◌, get_or, length, map, take, drop, refl, sym, ap, ◌∙◌, subst, arith, ◌⊎◌, inl, inr, eqb-true}
use Rattle.std.proofs.Math.ListN.{drop_of_length-le}
use Rattle.std.proofs.Math.Seq.{take-length}
use Rattle.std.proofs.lemmas.Bool.{cases_lt}
use Rattle.std.proofs.lemmas.Bool.Decides.{nat_tests}
use Rattle.std.proofs.lemmas.List.Sums.{prefix_len-le-length, prefix_len_stops}
use Rattle.std.proofs.lemmas.Str.{IsCharBoundary-after_ascii, IsCharBoundary-before_ascii, IsUtf8-drop, IsUtf8-from_is_utf8, IsUtf8-nil, IsUtf8-take}
use Rattle.std.specs.List.{after_first, before_first, list_all, position_or_len, prefix_len, suffix_len}
use Rattle.std.specs.Str.{is_utf8, IsUtf8}
use Rattle.std.specs.Str.Lossy.{utf8_valid_len, valid_len_up_to}
use Rattle.plugin_line.specs.Output.{first_line, in_ascii, is_blank, plugin_result, text_of, trimmed}
use Rattle.plugin_line.proofs.Boundaries.{back_boundary, front_boundary}
use Rattle.site_audit.proofs.Bytes.{both_so}
use Rattle.audit_laws.proofs.Fields.{small_utf8}

-- ---- bytes as a text

up_to_low : (bs : List ℕ) (m : ℕ) → valid_len_up_to bs m ≤ m
up_to_low bs zero = omega arith
up_to_low bs (suc m) = by (is_utf8 (take (suc m) bs)) (up_to_low bs m)
  where
    by : (t : Bool) → valid_len_up_to bs m ≤ m → cond t (suc m) (valid_len_up_to bs m) ≤ suc m
    by true le = omega arith
    by false le = omega (arith, le)

valid_to_end : (bs : List ℕ) (n : ℕ) → length bs ≡ n → valid_len_up_to bs n ≡ n → IsUtf8 bs
valid_to_end [] n e h = IsUtf8-nil
valid_to_end (b ∷ bs) zero e h = absurd (omega (arith, e))
valid_to_end (b ∷ bs) (suc m) e h = by (is_utf8 (take (suc m) (b ∷ bs))) refl h
  where
    by : (t : Bool) → is_utf8 (take (suc m) (b ∷ bs)) ≡ t → cond t (suc m) (valid_len_up_to (b ∷ bs) m) ≡ suc m → IsUtf8 (b ∷ bs)
    by true q g = subst IsUtf8 (ap (λ n. take n (b ∷ bs)) (sym e) ∙ take-length (b ∷ bs)) (IsUtf8-from_is_utf8 (take (suc m) (b ∷ bs)) q)
    by false q g = let le = up_to_low (b ∷ bs) m in absurd (omega (arith, le, g))

one_ascii : (b : ℕ) → nat_lt (in_ascii b) 128 ≡ true
one_ascii b = by (nat_lt b 128) refl
  where
    by : (t : Bool) → nat_lt b 128 ≡ t → nat_lt (cond t b 63) 128 ≡ true
    by true e = e
    by false e = refl

all_ascii : (bs : List ℕ) → list_all (λ b. nat_lt b 128) (map in_ascii bs) ≡ true
all_ascii [] = refl
all_ascii (b ∷ bs) = both_so (nat_lt (in_ascii b) 128) (list_all (λ b. nat_lt b 128) (map in_ascii bs)) (one_ascii b) (all_ascii bs)

valid_whole : (bs : List ℕ) → utf8_valid_len bs ≡ length bs → IsUtf8 bs
unfolding utf8_valid_len
valid_whole bs e = valid_to_end bs (length bs) refl e

text : (bs : List ℕ) → IsUtf8 (text_of bs)
text bs = by (utf8_valid_len bs == length bs) refl
  where
    by : (t : Bool) → (utf8_valid_len bs == length bs) ≡ t → IsUtf8 (cond t bs (map in_ascii bs))
    by true e = valid_whole bs (eqb-true (utf8_valid_len bs) (length bs) e)
    by false e = small_utf8 (map in_ascii bs) (all_ascii bs)

-- ---- parts of it

small_stop : (test : ℕ → Bool) → ((b : ℕ) → test b ≡ true → b < 128) → (bs : List ℕ) → position_or_len test bs < length bs → get_or bs (position_or_len test bs) 0 < 128
small_stop test f bs lt = f (get_or bs (position_or_len test bs) 0) (by (test (get_or bs (position_or_len test bs) 0)) (prefix_len_stops (λ b. not (test b)) bs 0 lt))
  where
    by : (t : Bool) → not t ≡ false → t ≡ true
    by true e = refl
    by false e = sym e

before_text : (test : ℕ → Bool) → ((b : ℕ) → test b ≡ true → b < 128) → (bs : List ℕ) → IsUtf8 bs → IsUtf8 (before_first test bs)
before_text test f bs u = by (cases_lt (position_or_len test bs) (length bs))
  where
    by : (position_or_len test bs < length bs) ⊎ (length bs ≤ position_or_len test bs) → IsUtf8 (take (position_or_len test bs) bs)
    by (inl lt) = IsUtf8-take bs (position_or_len test bs) u (IsCharBoundary-before_ascii bs (position_or_len test bs) lt (small_stop test f bs lt))
    by (inr le) =
        let low = prefix_len-le-length (λ b. not (test b)) bs in
        let e : length bs ≡ position_or_len test bs = omega (arith, low, le) in
        subst IsUtf8 (sym (take-length bs) ∙ ap (λ n. take n bs) e) u

after_text : (test : ℕ → Bool) → ((b : ℕ) → test b ≡ true → b < 128) → (bs : List ℕ) → IsUtf8 bs → IsUtf8 (after_first test bs)
after_text test f bs u = by (cases_lt (position_or_len test bs) (length bs))
  where
    by : (position_or_len test bs < length bs) ⊎ (length bs ≤ position_or_len test bs) → IsUtf8 (drop (position_or_len test bs + 1) bs)
    by (inl lt) = IsUtf8-drop bs (position_or_len test bs + 1) u (IsCharBoundary-after_ascii bs (position_or_len test bs) u lt (small_stop test f bs lt))
    by (inr le) = subst IsUtf8 (sym (drop_of_length-le bs (omega (arith, le)))) IsUtf8-nil

trimmed_text : (bs : List ℕ) → IsUtf8 bs → IsUtf8 (trimmed bs)
trimmed_text bs u = IsUtf8-take rest (length rest - suffix_len is_blank rest) front (back_boundary rest (length rest - suffix_len is_blank rest) refl)
  where
    rest : List ℕ
    rest = drop (prefix_len is_blank bs) bs

    by : (n : ℕ) → n ≡ prefix_len is_blank bs → IsUtf8 (drop n bs)
    by zero e = u
    by (suc n) e = IsUtf8-drop bs (suc n) u (front_boundary bs u (suc n) e (omega arith))

    front : IsUtf8 (drop (prefix_len is_blank bs) bs)
    front = by (prefix_len is_blank bs) refl

newline_small : (b : ℕ) → (b == 10) ≡ true → b < 128
newline_small b e = grind (arith, nat_tests, e)

bar_small : (b : ℕ) → (b == 124) ≡ true → b < 128
bar_small b e = grind (arith, nat_tests, e)

module _ (bytes : List ℕ) (status : ℕ) where
  line_text : IsUtf8 (first_line (text_of (take 65536 bytes)))
  line_text = before_text (λ b. b == 10) newline_small (text_of (take 65536 bytes)) (text (take 65536 bytes))

  pub output_text : IsUtf8 (plugin_result bytes status).output
  output_text = trimmed_text (before_first (λ b. b == 124) (first_line (text_of (take 65536 bytes)))) (before_text (λ b. b == 124) bar_small (first_line (text_of (take 65536 bytes))) line_text)

  pub perf_text : IsUtf8 (plugin_result bytes status).perf
  perf_text = trimmed_text (after_first (λ b. b == 124) (first_line (text_of (take 65536 bytes)))) (after_text (λ b. b == 124) bar_small (first_line (text_of (take 65536 bytes))) line_text)
