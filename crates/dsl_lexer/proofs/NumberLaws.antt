-- How many bytes a number takes, both ways.
use Rattle.std.proofs.Common.{◌≡◌, ℕ, ℤ, pos, negsuc, zero, suc, ◌+◌, ◌*◌, ◌<◌, ◌≤◌, ◌==◌, List, [], ◌∷◌, ◌++◌, length, take, drop, Bool, true, false, cond, not, ◌&&◌, ◌||◌, codes, Some, None, refl, sym, ap, ◌∙◌, subst, append_assoc, arith}
use Rattle.std.proofs.Math.Seq.{drop-append-add}
use Rattle.std.proofs.lemmas.List.{length-append, length-drop, take-append-drop, drop-drop}
use Rattle.std.proofs.lemmas.List.Sums.{prefix_len-le-length}
use Rattle.std.proofs.lemmas.Bool.Decides.{nat_tests}
use Rattle.std.specs.Char.{is_ascii_digit}
use Rattle.std.specs.List.{list_all, prefix_len}
use Rattle.std.specs.Str.{bytes_eq}
use Rattle.std.specs.Str.Parse.{AllDigits}
use Rattle.site_base.specs.Reading.{unit_size, pointed, number_read, IsWritten, Spells}
use Rattle.site_base.proofs.Front.{below_digit}
use Rattle.site_base.proofs.Spelled.{read_spells}
use Rattle.dsl_lexer.specs.Letters.{is_name_byte, follows, goes_on}
use Rattle.dsl_lexer.specs.Steps.{pointed_len, fraction_len, number_len}
use Rattle.dsl_lexer.specs.Tokens.{begins_fraction, ends_number}
use Rattle.dsl_lexer.proofs.Bytes.{both, both_first, both_second, not_true, not_false, same_bytes, drop_front, run, run_whole}

digit_name : (b : ℕ) → is_ascii_digit b ≡ true → is_name_byte b ≡ true
digit_name b h = grind (arith, nat_tests)

no_digit : (rest : List ℕ) → goes_on rest ≡ false → follows is_ascii_digit rest ≡ false
no_digit [] h = refl
no_digit (b ∷ bs) h = by (is_ascii_digit b) refl
  where
    by : (t : Bool) → is_ascii_digit b ≡ t → t ≡ false
    by true e = let is : is_name_byte b ≡ true = digit_name b e in cc
    by false e = refl

pub all_digits : (ds : List ℕ) → AllDigits 10 ds → list_all is_ascii_digit ds ≡ true
all_digits [] h = refl
all_digits (d ∷ ds) h = both _ _ (below_digit d h.0) (all_digits ds h.1)

-- a unit is letters
pub record IsUnit (unit : List ℕ) : Type 0 where
  pub name : list_all is_name_byte unit ≡ true
  pub start : follows is_ascii_digit unit ≡ false
  pub no_point : (rest : List ℕ) → 0 < length unit → fraction_len (unit ++ rest) ≡ 0

pub unit_is : (unit : List ℕ) (size : ℕ) → unit_size unit ≡ Some size → IsUnit unit
unit_is unit size e = by (bytes_eq unit []) (bytes_eq unit (codes "s")) (bytes_eq unit (codes "ms")) (bytes_eq unit (codes "m")) (bytes_eq unit (codes "h")) (bytes_eq unit (codes "d")) refl refl refl refl refl refl e
  where
    letters : (us : List ℕ) → unit ≡ us → IsUnit us → IsUnit unit
    letters us is h = subst IsUnit (sym is) h

    by : (p q r s t u : Bool) → bytes_eq unit [] ≡ p → bytes_eq unit (codes "s") ≡ q → bytes_eq unit (codes "ms") ≡ r → bytes_eq unit (codes "m") ≡ s → bytes_eq unit (codes "h") ≡ t → bytes_eq unit (codes "d") ≡ u
        → cond (p || q) (Some 1000) (cond r (Some 1) (cond s (Some (60 * 1000)) (cond t (Some (60 * 60 * 1000)) (cond u (Some (24 * 60 * 60 * 1000)) None)))) ≡ Some size → IsUnit unit
    by true q r s t u hp hq hr hs ht hu e = letters [] (same_bytes unit [] hp) (record { name = refl; start = refl; no_point = λ rest h. absurd (omega arith) })
    by false true r s t u hp hq hr hs ht hu e = letters (codes "s") (same_bytes unit (codes "s") hq) (record { name = refl; start = refl; no_point = λ rest h. refl })
    by false false true s t u hp hq hr hs ht hu e = letters (codes "ms") (same_bytes unit (codes "ms") hr) (record { name = refl; start = refl; no_point = λ rest h. refl })
    by false false false true t u hp hq hr hs ht hu e = letters (codes "m") (same_bytes unit (codes "m") hs) (record { name = refl; start = refl; no_point = λ rest h. refl })
    by false false false false true u hp hq hr hs ht hu e = letters (codes "h") (same_bytes unit (codes "h") ht) (record { name = refl; start = refl; no_point = λ rest h. refl })
    by false false false false false true hp hq hr hs ht hu e = letters (codes "d") (same_bytes unit (codes "d") hu) (record { name = refl; start = refl; no_point = λ rest h. refl })
    by false false false false false false hp hq hr hs ht hu e = cc

pub pointed_some : (n : ℕ) → pointed_len (suc n) ≡ suc (suc n)
pointed_some n = grind (arith, nat_tests)

-- a point with a digit is a fraction, and nothing else is
digit_run : (d : ℕ) (bs : List ℕ) → is_ascii_digit d ≡ false → prefix_len is_ascii_digit (d ∷ bs) ≡ 0
digit_run d bs h = ap (λ t. cond t (1 + prefix_len is_ascii_digit bs) 0) h

fraction_none : (rest : List ℕ) → begins_fraction rest ≡ false → fraction_len rest ≡ 0
fraction_none [] h = refl
fraction_none (b ∷ []) h = by (b == 46)
  where
    by : (t : Bool) → cond t (pointed_len 0) 0 ≡ 0
    by true = refl
    by false = refl
fraction_none (b ∷ d ∷ bs) h = by (b == 46) refl h
  where
    by : (t : Bool) → (b == 46) ≡ t → (t && is_ascii_digit d) ≡ false → cond t (pointed_len (prefix_len is_ascii_digit (d ∷ bs))) 0 ≡ 0
    by true e h = ap pointed_len (digit_run d bs h)
    by false e h = refl

fraction_some : (rest : List ℕ) → begins_fraction rest ≡ true → (0 < fraction_len rest) × (follows is_ascii_digit rest ≡ false)
fraction_some [] h = absurd cc
fraction_some (b ∷ []) h = absurd cc
fraction_some (b ∷ d ∷ bs) h =
    let point : (b == 46) ≡ true = both_first (b == 46) (is_ascii_digit d) h in
    let digit : is_ascii_digit d ≡ true = both_second (b == 46) (is_ascii_digit d) h in
    let len : fraction_len (b ∷ d ∷ bs) ≡ pointed_len (1 + prefix_len is_ascii_digit bs) =
    ap (λ t. cond t (pointed_len (prefix_len is_ascii_digit (d ∷ bs))) 0) point ∙ ap (λ t. pointed_len (cond t (1 + prefix_len is_ascii_digit bs) 0)) digit in
    let one : 1 + prefix_len is_ascii_digit bs ≡ suc (prefix_len is_ascii_digit bs) = omega arith in
    (omega (arith, len, ap pointed_len one, pointed_some (prefix_len is_ascii_digit bs)), let t : is_ascii_digit b ≡ false = grind (arith, nat_tests) in t)

fraction_pointed : (behind rest : List ℕ) → list_all is_ascii_digit behind ≡ true → 0 < length behind → follows is_ascii_digit rest ≡ false → fraction_len (pointed behind ++ rest) ≡ length (pointed behind)
fraction_pointed [] rest h some stop = absurd (omega arith)
fraction_pointed (d ∷ ds) rest h some stop = ap pointed_len (run_whole is_ascii_digit (d ∷ ds) rest h stop) ∙ pointed_some (length ds)

pub number_by : (bs : List ℕ) (w f : ℕ) → prefix_len is_ascii_digit bs ≡ w → fraction_len (drop w bs) ≡ f → number_len bs ≡ (w + f) + prefix_len is_name_byte (drop (w + f) bs)
number_by bs w f ew ef =
    ap (λ k. (k + fraction_len (drop k bs)) + prefix_len is_name_byte (drop (k + fraction_len (drop k bs)) bs)) ew
    ∙ ap (λ k. (w + k) + prefix_len is_name_byte (drop (w + k) bs)) ef

follows_unit : (unit rest : List ℕ) → IsUnit unit → goes_on rest ≡ false → follows is_ascii_digit (unit ++ rest) ≡ false
follows_unit [] rest u h = no_digit rest h
follows_unit (x ∷ unit) rest u h = u.start

follows_pointed : (behind xs : List ℕ) → follows is_ascii_digit xs ≡ false → follows is_ascii_digit (pointed behind ++ xs) ≡ false
follows_pointed [] xs h = h
follows_pointed (d ∷ ds) xs h = refl

fraction_is : (whole behind unit rest : List ℕ) → list_all is_ascii_digit whole ≡ true → list_all is_ascii_digit behind ≡ true → IsUnit unit → goes_on rest ≡ false
    → (list_all is_ascii_digit (whole ++ (pointed behind ++ unit)) && begins_fraction rest) ≡ false → fraction_len (pointed behind ++ (unit ++ rest)) ≡ length (pointed behind)
fraction_is whole [] [] rest hw hb u g h = fraction_none rest (by (list_all is_ascii_digit (whole ++ [])) refl h)
  where
    plain : (xs : List ℕ) → list_all is_ascii_digit xs ≡ true → list_all is_ascii_digit (xs ++ []) ≡ true
    plain [] e = refl
    plain (x ∷ xs) e = both _ _ (both_first _ _ e) (plain xs (both_second _ _ e))

    by : (t : Bool) → list_all is_ascii_digit (whole ++ []) ≡ t → (t && begins_fraction rest) ≡ false → begins_fraction rest ≡ false
    by true e h = h
    by false e h = let no_way : list_all is_ascii_digit (whole ++ []) ≡ true = plain whole hw in absurd cc
fraction_is whole [] (x ∷ unit) rest hw hb u g h = u.no_point rest (omega arith)
fraction_is whole (d ∷ ds) unit rest hw hb u g h = fraction_pointed (d ∷ ds) (unit ++ rest) hb (omega arith) (follows_unit unit rest u g)

written_len : (text rest whole behind unit : List ℕ) (size : ℕ) → IsWritten text whole behind unit → unit_size unit ≡ Some size → ends_number text rest ≡ true → number_len (text ++ rest) ≡ length text
written_len text rest whole behind unit size w e h =
    let u = unit_is unit size e in
    let g : goes_on rest ≡ false = not_true _ (both_first (not (goes_on rest)) (not (list_all is_ascii_digit text && begins_fraction rest)) h) in
    let plain : (list_all is_ascii_digit text && begins_fraction rest) ≡ false = not_true _ (both_second (not (goes_on rest)) (not (list_all is_ascii_digit text && begins_fraction rest)) h) in
    let split : text ++ rest ≡ whole ++ (pointed behind ++ (unit ++ rest)) =
    ap (λ xs. xs ++ rest) w.spelled ∙ (append_assoc whole (pointed behind ++ unit) rest ∙ ap (λ xs. whole ++ xs) (append_assoc (pointed behind) unit rest)) in
    let digits = all_digits whole w.digits.1 in
    let stop : follows is_ascii_digit (pointed behind ++ (unit ++ rest)) ≡ false = follows_pointed behind (unit ++ rest) (follows_unit unit rest u g) in
    let first : prefix_len is_ascii_digit (whole ++ (pointed behind ++ (unit ++ rest))) ≡ length whole = run_whole is_ascii_digit whole (pointed behind ++ (unit ++ rest)) digits stop in
    let second : fraction_len (drop (length whole) (whole ++ (pointed behind ++ (unit ++ rest)))) ≡ length (pointed behind) =
    ap fraction_len (drop_front whole (pointed behind ++ (unit ++ rest)) (length whole) refl)
    ∙ fraction_is whole behind unit rest digits (all_digits behind w.more_digits) u g (ap (λ xs. list_all is_ascii_digit xs && begins_fraction rest) (sym w.spelled) ∙ plain) in
    let left : drop (length whole + length (pointed behind)) (whole ++ (pointed behind ++ (unit ++ rest))) ≡ unit ++ rest =
    drop-append-add whole (pointed behind ++ (unit ++ rest)) (length (pointed behind)) ∙ drop_front (pointed behind) (unit ++ rest) (length (pointed behind)) refl in
    let third : prefix_len is_name_byte (drop (length whole + length (pointed behind)) (whole ++ (pointed behind ++ (unit ++ rest)))) ≡ length unit =
    ap (prefix_len is_name_byte) left ∙ run_whole is_name_byte unit rest u.name g in
    let sum : (length whole + length (pointed behind)) + length unit ≡ length text =
    omega (arith, ap length w.spelled, length-append whole (pointed behind ++ unit), length-append (pointed behind) unit) in
    ap number_len split ∙ (number_by (whole ++ (pointed behind ++ (unit ++ rest))) (length whole) (length (pointed behind)) first second
    ∙ (ap (λ n. (length whole + length (pointed behind)) + n) third ∙ sum))

pub number_complete : (text rest : List ℕ) (z : ℤ) → number_read text ≡ Some z → ends_number text rest ≡ true → number_len (text ++ rest) ≡ length text
number_complete text rest z e h = by z (read_spells text z e)
  where
    by : (z : ℤ) → Spells text z → number_len (text ++ rest) ≡ length text
    by (pos n) s = written_len text rest s.0 s.1 s.2 s.3 s.4 s.5 h
    by (negsuc n) s = absurd s

-- a number with all letters and digits that follow it
pub record NumberFront (bs : List ℕ) : Type 0 where
  pub text : List ℕ
  pub rest : List ℕ
  pub whole : bs ≡ text ++ rest
  pub size : length text ≡ number_len bs
  pub some : 0 < length text
  pub stops : ends_number text rest ≡ true

fraction_within : (bs : List ℕ) → fraction_len bs ≤ length bs
fraction_within [] = omega arith
fraction_within (b ∷ bs) = by (b == 46)
  where
    small : (n : ℕ) → n ≤ length bs → pointed_len n ≤ suc (length bs)
    small zero h = omega arith
    small (suc n) h = omega (arith, pointed_some n)

    by : (t : Bool) → cond t (pointed_len (prefix_len is_ascii_digit bs)) 0 ≤ suc (length bs)
    by true = small (prefix_len is_ascii_digit bs) (prefix_len-le-length is_ascii_digit bs)
    by false = omega arith

pub number_front : (b : ℕ) (bs : List ℕ) → is_ascii_digit b ≡ true → NumberFront (b ∷ bs)
number_front b bs digit =
    let all : List ℕ = b ∷ bs in
    let w : ℕ = prefix_len is_ascii_digit all in
    let f : ℕ = fraction_len (drop w all) in
    let k : ℕ = prefix_len is_name_byte (drop (w + f) all) in
    let n : ℕ = number_len all in
    let some : 0 < w = (let e : w ≡ 1 + prefix_len is_ascii_digit bs = ap (λ t. cond t (1 + prefix_len is_ascii_digit bs) 0) digit in omega arith) in
    let fits : n ≤ length all = omega (arith, prefix_len-le-length is_ascii_digit all, fraction_within (drop w all), length-drop w all, prefix_len-le-length is_name_byte (drop (w + f) all), length-drop (w + f) all) in
    let split : all ≡ take n all ++ drop n all = sym (take-append-drop n all) in
    let size : length (take n all) ≡ n = length_of n all fits in
    let r = run is_name_byte (drop (w + f) all) in
    let behind : drop n all ≡ r.rest = sym (drop-drop k (w + f) all) ∙ (ap (drop k) r.whole ∙ drop_front r.text r.rest k r.size) in
    let g : goes_on (drop n all) ≡ false = ap goes_on behind ∙ r.stops in
    record {
      text = take n all;
      rest = drop n all;
      whole = split;
      size = size;
      some = omega arith;
      stops = both _ _ (not_false _ g) (not_false _ (plain (list_all is_ascii_digit (take n all)) (begins_fraction (drop n all)) refl refl));
    }
  where
    length_of : (n : ℕ) (xs : List ℕ) → n ≤ length xs → length (take n xs) ≡ n
    length_of n xs h = omega (arith, length-append (take n xs) (drop n xs), ap length (take-append-drop n xs), length-drop n xs)

    plain : (p q : Bool) → list_all is_ascii_digit (take (number_len (b ∷ bs)) (b ∷ bs)) ≡ p → begins_fraction (drop (number_len (b ∷ bs)) (b ∷ bs)) ≡ q → (p && q) ≡ false
    plain false q hp hq = refl
    plain true false hp hq = refl
    plain true true hp hq =
        let n : ℕ = number_len (b ∷ bs) in
        let w : ℕ = prefix_len is_ascii_digit (b ∷ bs) in
        let fits : n ≤ length (b ∷ bs) = omega (arith, prefix_len-le-length is_ascii_digit (b ∷ bs), fraction_within (drop w (b ∷ bs)), length-drop w (b ∷ bs), prefix_len-le-length is_name_byte (drop (w + fraction_len (drop w (b ∷ bs))) (b ∷ bs)), length-drop (w + fraction_len (drop w (b ∷ bs))) (b ∷ bs)) in
        let some = fraction_some (drop n (b ∷ bs)) hq in
        let whole : prefix_len is_ascii_digit (take n (b ∷ bs) ++ drop n (b ∷ bs)) ≡ length (take n (b ∷ bs)) = run_whole is_ascii_digit (take n (b ∷ bs)) (drop n (b ∷ bs)) hp some.1 in
        let same : w ≡ n = ap (prefix_len is_ascii_digit) (sym (take-append-drop n (b ∷ bs))) ∙ (whole ∙ length_of n (b ∷ bs) fits) in
        let more : 0 < fraction_len (drop w (b ∷ bs)) = subst (λ k. 0 < fraction_len (drop k (b ∷ bs))) (sym same) some.0 in
        absurd (omega arith)
