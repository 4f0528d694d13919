-- What a plugin told is read again.
use Rattle.std.proofs.Common.{◌≡◌, ℕ, zero, suc, ◌+◌, ◌-◌, ◌<◌, ◌≤◌, ◌==◌, min, nat_lt, Bool, true, false, cond, List, [], ◌∷◌, ◌++◌, length, take, drop, map, reverse, get_or, refl, sym, ap, ◌∙◌, subst, arith, inl, inr, ◌⊎◌}
use Rattle.std.proofs.lemmas.Bool.{cases_lt}
use Rattle.std.proofs.lemmas.Bool.Decides.{nat_tests}
use Rattle.std.proofs.lemmas.List.{length-append, length-take, length-drop, length-map, length-take-le, length-reverse, get_or-take, get_or-drop, get_or-reverse, take_all}
use Rattle.std.proofs.lemmas.List.Sums.{prefix_len_is, prefix_len_stops, suffix_len-le-length, suffix_len_is}
use Rattle.std.proofs.lemmas.Str.{IsUtf8-take, IsUtf8-drop, IsUtf8-nil, IsUtf8-append, IsUtf8-from_ascii, IsUtf8-from_is_utf8}
use Rattle.std.specs.List.{prefix_len, suffix_len}
use Rattle.std.specs.Str.{IsUtf8, is_utf8, IsAscii}
use Rattle.std.specs.Str.Lossy.{utf8_valid_len, valid_len_up_to}
use Rattle.plugin_line.proofs.Boundaries.{front_boundary, back_boundary}
use Rattle.plugin_line.proofs.WholeText.{text_of_text}
use Rattle.plugin_line.specs.Output.{is_blank, trimmed, first_line, result_of, in_ascii, text_of, plugin_result}
use Rattle.audit_laws.specs.Askable.{AreOfOutput}
use Rattle.site_audit.specs.Commands.{output_text}
use Rattle.audit_laws.proofs.Bytes.{Lacks, at, front, behind, lacks_take, lacks_drop, lacks_append, lacks_front, front_all, behind_none, front_of, behind_of, front_text, behind_text}

-- ---- blanks

abbrev led : List ℕ → List ℕ
led bs = drop (prefix_len is_blank bs) bs

abbrev ended : List ℕ → List ℕ
ended bs = take (length bs - suffix_len is_blank bs) bs

-- no blank stands at the start or at the end
record IsTrim (bs : List ℕ) : Type 0 where
  first : 0 < length bs → is_blank (get_or bs 0 0) ≡ false
  last : 0 < length bs → is_blank (get_or bs (length bs - 1) 0) ≡ false

trim_stays : (bs : List ℕ) → IsTrim bs → trimmed bs ≡ bs
trim_stays bs h =
    ap (λ n. ended (drop n bs)) none_first
    ∙ (ap (λ n. take (length bs - n) bs) none_last ∙ take_all (length bs - 0) bs (omega arith))
  where
    none_first : prefix_len is_blank bs ≡ 0
    none_first = prefix_len_is is_blank bs 0 0 (omega arith) (λ k lt. absurd (omega (arith, lt))) h.first

    none_last : suffix_len is_blank bs ≡ 0
    none_last =
        let is = suffix_len_is is_blank bs (length bs) 0 (omega arith) (λ k le lt. absurd (omega (arith, le, lt))) h.last in
        let zero_left : length bs - length bs ≡ 0 = omega arith in
        is ∙ zero_left

led_first : (bs : List ℕ) → 0 < length (led bs) → is_blank (get_or (led bs) 0 0) ≡ false
led_first bs h =
    let long = length-drop (prefix_len is_blank bs) bs in
    let n : prefix_len is_blank bs + 0 ≡ prefix_len is_blank bs = omega arith in
    ap is_blank (get_or-drop (prefix_len is_blank bs) bs 0 0 ∙ ap (λ i. get_or bs i 0) n)
    ∙ prefix_len_stops is_blank bs 0 (omega (arith, h, long))

ended_last : (bs : List ℕ) (n : ℕ) → n ≡ length bs - suffix_len is_blank bs → 0 < n → is_blank (get_or bs (n - 1) 0) ≡ false
ended_last bs n is some =
    let few = suffix_len-le-length is_blank bs in
    let long = length-reverse bs in
    let inside : suffix_len is_blank bs < length bs = omega (arith, is, some, few) in
    let place : length bs - 1 - suffix_len is_blank bs ≡ n - 1 = omega (arith, is, some, few) in
    ap (λ i. is_blank (get_or bs i 0)) (sym place)
    ∙ (ap is_blank (sym (get_or-reverse bs (suffix_len is_blank bs) 0 inside))
    ∙ prefix_len_stops is_blank (reverse bs) 0 (omega (arith, inside, long)))

ended_is_trim : (bs : List ℕ) → (0 < length bs → is_blank (get_or bs 0 0) ≡ false) → IsTrim (ended bs)
ended_is_trim bs h = by (length bs - suffix_len is_blank bs) refl
  where
    by : (n : ℕ) → n ≡ length bs - suffix_len is_blank bs → IsTrim (take n bs)
    by n is =
        let long : length (take n bs) ≡ n = length-take-le n bs (omega (arith, is)) in
        record {
          first = λ some. ap is_blank (get_or-take n bs 0 0 (omega (arith, some, long))) ∙ h (omega (arith, some, long, is));
          last = λ some.
              ap (λ m. is_blank (get_or (take n bs) (m - 1) 0)) long
              ∙ (ap is_blank (get_or-take n bs (n - 1) 0 (omega (arith, some, long))) ∙ ended_last bs n is (omega (arith, some, long)));
        }

trimmed_is_trim : (bs : List ℕ) → IsTrim (trimmed bs)
trimmed_is_trim bs = ended_is_trim (led bs) (led_first bs)

trimmed_stays : (bs : List ℕ) → trimmed (trimmed bs) ≡ trimmed bs
trimmed_stays bs = trim_stays (trimmed bs) (trimmed_is_trim bs)

lacks_trimmed : (c : ℕ) (bs : List ℕ) → Lacks c bs → Lacks c (trimmed bs)
lacks_trimmed c bs h = lacks_take c (length (led bs) - suffix_len is_blank (led bs)) (led bs) (lacks_drop c (prefix_len is_blank bs) bs h)

trimmed_fewer : (bs : List ℕ) → length (trimmed bs) ≤ length bs
trimmed_fewer bs =
    let one = length-drop (prefix_len is_blank bs) bs in
    let two = length-take (length (led bs) - suffix_len is_blank (led bs)) (led bs) in
    omega (arith, one, two)

-- ---- texts

led_text : (bs : List ℕ) → IsUtf8 bs → IsUtf8 (led bs)
led_text bs h = by (prefix_len is_blank bs) refl (cases_lt 0 (prefix_len is_blank bs))
  where
    by : (n : ℕ) → n ≡ prefix_len is_blank bs → (0 < prefix_len is_blank bs) ⊎ (prefix_len is_blank bs ≤ 0) → IsUtf8 (drop n bs)
    by n is (inl some) = IsUtf8-drop bs n h (front_boundary bs h n is (omega (arith, is, some)))
    by n is (inr none) = let e : 0 ≡ n = omega (arith, is, none) in subst (λ k. IsUtf8 (drop k bs)) e h

pub trimmed_text : (bs : List ℕ) → IsUtf8 bs → IsUtf8 (trimmed bs)
trimmed_text bs h =
    IsUtf8-take (led bs) (length (led bs) - suffix_len is_blank (led bs)) (led_text bs h) (back_boundary (led bs) (length (led bs) - suffix_len is_blank (led bs)) refl)

valid_to : (bs : List ℕ) (n : ℕ) → valid_len_up_to bs n ≡ n → IsUtf8 (take n bs)
valid_to bs zero e = IsUtf8-nil
valid_to bs (suc n) e = by (is_utf8 (take (suc n) bs)) refl e
  where
    few : (n : ℕ) → valid_len_up_to bs n ≤ n
    few zero = omega arith
    few (suc n) = step (is_utf8 (take (suc n) bs)) (few n)
      where
        step : (t : Bool) → valid_len_up_to bs n ≤ n → cond t (suc n) (valid_len_up_to bs n) ≤ suc n
        step true h = omega arith
        step false h = omega (arith, h)

    by : (t : Bool) → is_utf8 (take (suc n) bs) ≡ t → cond t (suc n) (valid_len_up_to bs n) ≡ suc n → IsUtf8 (take (suc n) bs)
    by true is e = IsUtf8-from_is_utf8 (take (suc n) bs) is
    by false is e = absurd (let h = few n in omega (arith, h, e))

valid_whole : (bs : List ℕ) → utf8_valid_len bs ≡ length bs → IsUtf8 bs
unfolding utf8_valid_len
valid_whole bs e = subst IsUtf8 (take_all (length bs) bs (omega arith)) (valid_to bs (length bs) e)

ascii_small : (b : ℕ) → in_ascii b < 128
ascii_small b = by (nat_lt b 128) refl
  where
    by : (t : Bool) → nat_lt b 128 ≡ t → cond t b 63 < 128
    by true e = grind (arith, nat_tests, e)
    by false e = omega arith

ascii_map : (bs : List ℕ) → IsAscii (map in_ascii bs)
ascii_map [] i = omega arith
ascii_map (b ∷ bs) zero = ascii_small b
ascii_map (b ∷ bs) (suc i) = ascii_map bs i

pub text_of_is_text : (bs : List ℕ) → IsUtf8 (text_of bs)
text_of_is_text bs = by (utf8_valid_len bs == length bs) refl
  where
    by : (t : Bool) → (utf8_valid_len bs == length bs) ≡ t → IsUtf8 (cond t bs (map in_ascii bs))
    by true e = valid_whole bs (grind (arith, nat_tests, e))
    by false e = IsUtf8-from_ascii (map in_ascii bs) (ascii_map bs)

text_of_long : (bs : List ℕ) → length (text_of bs) ≡ length bs
text_of_long bs = by (utf8_valid_len bs == length bs)
  where
    by : (t : Bool) → length (cond t bs (map in_ascii bs)) ≡ length bs
    by true = refl
    by false = length-map bs in_ascii

-- ---- what is told is read again

abbrev out_of : List ℕ → List ℕ
out_of text = trimmed (front 124 (first_line text))

abbrev perf_of : List ℕ → List ℕ
perf_of text = trimmed (behind 124 (first_line text))

pub out_text : (text : List ℕ) → IsUtf8 text → IsUtf8 (out_of text)
out_text text h = trimmed_text (front 124 (first_line text)) (front_text 124 (first_line text) (omega arith) (front_text 10 text (omega arith) h))

pub perf_text : (text : List ℕ) → IsUtf8 text → IsUtf8 (perf_of text)
perf_text text h = trimmed_text (behind 124 (first_line text)) (behind_text 124 (first_line text) (omega arith) (front_text 10 text (omega arith) h))

out_no_line : (text : List ℕ) → Lacks 10 (out_of text)
out_no_line text = lacks_trimmed 10 (front 124 (first_line text)) (lacks_take 10 (at 124 (first_line text)) (first_line text) (lacks_front 10 text))

out_no_bar : (text : List ℕ) → Lacks 124 (out_of text)
out_no_bar text = lacks_trimmed 124 (front 124 (first_line text)) (lacks_front 124 (first_line text))

perf_no_line : (text : List ℕ) → Lacks 10 (perf_of text)
perf_no_line text = lacks_trimmed 10 (behind 124 (first_line text)) (lacks_drop 10 (at 124 (first_line text) + 1) (first_line text) (lacks_front 10 text))

-- what is told is no longer than what it was told of
out_few : (text : List ℕ) → length (out_of text) ≤ length text
out_few text =
    let one = trimmed_fewer (front 124 (first_line text)) in
    let two = length-take (at 124 (first_line text)) (first_line text) in
    let three = length-take (at 10 text) text in
    omega (arith, one, two, three)

both_few : (text : List ℕ) → 0 < length (perf_of text) → length (out_of text) + suc (length (perf_of text)) ≤ length text
both_few text some =
    let one = trimmed_fewer (front 124 (first_line text)) in
    let two = length-take (at 124 (first_line text)) (first_line text) in
    let three = length-take (at 10 text) text in
    let four = trimmed_fewer (behind 124 (first_line text)) in
    let five = length-drop (at 124 (first_line text) + 1) (first_line text) in
    omega (arith, one, two, three, four, five, some)

-- reading a text that is short enough
abbrev same_read : List ℕ → List ℕ → List ℕ → ℕ → Type 0
same_read told output perf status = plugin_result told status ≡ record { status = min status 3; output = output; perf = perf }

short_read : (told : List ℕ) (status : ℕ) → IsUtf8 told → length told ≤ 65536 → plugin_result told status ≡ result_of told status
short_read told status text few =
    ap (λ bs. result_of (text_of bs) status) (take_all 65536 told few) ∙ ap (λ bs. result_of bs status) (text_of_text told text)

three : (told output perf : List ℕ) (status : ℕ) → out_of told ≡ output → perf_of told ≡ perf → result_of told status ≡ record { status = min status 3; output = output; perf = perf }
three told output perf status o p =
    ap (λ xs. record { status = min status 3; output = xs; perf = perf_of told }) o ∙ ap (λ xs. record { status = min status 3; output = output; perf = xs }) p

-- the output alone
alone_read : (text : List ℕ) (status : ℕ) → IsUtf8 text → length text ≤ 65536 → same_read (out_of text) (out_of text) [] status
alone_read text status is few =
    short_read (out_of text) status (out_text text is) (let h = out_few text in omega (arith, h, few))
    ∙ three (out_of text) (out_of text) [] status
    (ap (λ bs. trimmed (front 124 bs)) line ∙ (ap trimmed (front_all 124 (out_of text) (out_no_bar text)) ∙ trimmed_stays (front 124 (first_line text))))
    (ap (λ bs. trimmed (behind 124 bs)) line ∙ ap trimmed (behind_none 124 (out_of text) (out_no_bar text)))
  where
    line : first_line (out_of text) ≡ out_of text
    line = front_all 10 (out_of text) (out_no_line text)

-- and with the performance text behind it
joined_read : (text perf : List ℕ) (status : ℕ) → IsUtf8 text → length text ≤ 65536 → perf_of text ≡ perf → 0 < length perf → same_read (out_of text ++ 124 ∷ perf) (out_of text) perf status
joined_read text perf status is few e some =
    short_read told status told_text (let h = both_few text (omega (arith, some, long)) in let g = length-append (out_of text) (124 ∷ perf) in omega (arith, h, g, few, long))
    ∙ three told (out_of text) perf status
    (ap (λ bs. trimmed (front 124 bs)) line ∙ (ap trimmed (front_of 124 (out_of text) perf (out_no_bar text)) ∙ trimmed_stays (front 124 (first_line text))))
    (ap (λ bs. trimmed (behind 124 bs)) line ∙ (ap trimmed (behind_of 124 (out_of text) perf (out_no_bar text)) ∙ (sym (ap trimmed e) ∙ (trimmed_stays (behind 124 (first_line text)) ∙ e))))
  where
    told : List ℕ
    told = out_of text ++ 124 ∷ perf

    long : length (perf_of text) ≡ length perf
    long = ap length e

    told_text : IsUtf8 told
    told_text =
        IsUtf8-append (out_of text) (124 ∷ perf) (out_text text is)
        (IsUtf8-append (124 ∷ []) perf (IsUtf8-from_ascii (124 ∷ []) bar) (subst IsUtf8 e (perf_text text is)))
      where
        bar : IsAscii (124 ∷ [])
        bar zero = omega arith
        bar (suc i) = omega arith

    no_line : Lacks 10 told
    no_line = lacks_append 10 (out_of text) (124 ∷ perf) (out_no_line text) (refl, subst (Lacks 10) e (perf_no_line text))

    line : first_line told ≡ told
    line = front_all 10 told no_line

pub told_read : (text perf : List ℕ) (status : ℕ) → IsUtf8 text → length text ≤ 65536 → perf_of text ≡ perf → same_read (output_text (out_of text) perf) (out_of text) perf status
told_read text [] status is few e = alone_read text status is few
told_read text (b ∷ bs) status is few e = joined_read text (b ∷ bs) status is few e (omega arith)

pub read_again : (bytes : List ℕ) (status : ℕ) → plugin_result (output_text (plugin_result bytes status).output (plugin_result bytes status).perf) (plugin_result bytes status).status ≡ plugin_result bytes status
read_again bytes status =
    told_read (text_of (take 65536 bytes)) (perf_of (text_of (take 65536 bytes))) (min status 3) (text_of_is_text (take 65536 bytes))
    (let h = text_of_long (take 65536 bytes) in let g = length-take 65536 bytes in omega (arith, h, g)) refl
    ∙ ap (λ n. record { status = n; output = out_of (text_of (take 65536 bytes)); perf = perf_of (text_of (take 65536 bytes)) }) low
  where
    low : min (min status 3) 3 ≡ min status 3
    low = omega arith

-- ---- texts that an output is read as

-- the text that the bytes are read as
abbrev read_text : List ℕ → List ℕ
read_text bytes = text_of (take 65536 bytes)

read_few : (bytes : List ℕ) → length (read_text bytes) ≤ 65536
read_few bytes = let h = text_of_long (take 65536 bytes) in let g = length-take 65536 bytes in omega (arith, h, g)

pub told_again : (bytes output perf : List ℕ) (status : ℕ) → (plugin_result bytes 0).output ≡ output → (plugin_result bytes 0).perf ≡ perf → plugin_result (output_text output perf) status ≡ record { status = min status 3; output = output; perf = perf }
told_again bytes output perf status o p =
    subst (λ out. plugin_result (output_text out perf) status ≡ record { status = min status 3; output = out; perf = perf }) o
    (told_read (read_text bytes) perf status (text_of_is_text (take 65536 bytes)) (read_few bytes) p)

both_text : (output perf : List ℕ) → IsUtf8 output → IsUtf8 perf → IsUtf8 (output_text output perf)
both_text output [] h k = h
both_text output (b ∷ bs) h k = IsUtf8-append output (124 ∷ b ∷ bs) h (IsUtf8-append (124 ∷ []) (b ∷ bs) (IsUtf8-from_ascii (124 ∷ []) bar) k)
  where
    bar : IsAscii (124 ∷ [])
    bar zero = omega arith
    bar (suc i) = omega arith

pub told_text : (bytes output perf : List ℕ) → (plugin_result bytes 0).output ≡ output → (plugin_result bytes 0).perf ≡ perf → IsUtf8 (output_text output perf)
told_text bytes output perf o p =
    both_text output perf
    (subst IsUtf8 o (out_text (read_text bytes) (text_of_is_text (take 65536 bytes))))
    (subst IsUtf8 p (perf_text (read_text bytes) (text_of_is_text (take 65536 bytes))))

-- of no output there are no texts
pub empty_output : AreOfOutput [] []
empty_output = record {
  bytes = [];
  output_is = ap (λ text. (result_of text 0).output) (text_of_text [] IsUtf8-nil);
  perf_is = ap (λ text. (result_of text 0).perf) (text_of_text [] IsUtf8-nil);
}
