-- What is read of a text is what the text spells.
use Rattle.std.proofs.Common.{◌≡◌, ◌≢◌, ℕ, ◌+◌, ◌^◌, ◌<◌, ◌≤◌, ◌==◌, Bool, true, false, cond, List, [], ◌∷◌, ◌++◌, length, take, drop, arith, ap, sym, ◌∙◌, refl, subst, Option, Some, None, IfSome, inl, inr, ℤ, pos, if◌then◌else◌}
use Rattle.std.proofs.Math.Seq.{take-append_seam, drop-append_seam}
use Rattle.std.proofs.lemmas.Bool.{cases_lt}
use Rattle.std.proofs.lemmas.Bool.Decides.{nat_tests}
use Rattle.std.proofs.lemmas.List.{take-append-drop}
use Rattle.std.specs.Char.{is_ascii_digit}
use Rattle.std.specs.List.{take_while, prefix_len}
use Rattle.std.specs.Str.{bytes_eq}
use Rattle.std.specs.Str.Parse.{AllDigits, IsNumeral}
use Rattle.site_base.specs.Reading.{unit_size, pointed, digits_behind, scaled, number_read, IsWritten, Spells}
use Rattle.site_base.proofs.Scaled.{scaled_number, ranged_small, scaled_some, none_some}
use Rattle.site_base.proofs.Front.{below_digit, front_digits, behind_digits, read_empty, read_some, read_none}

-- a text that begins with no digit
IsStop : List ℕ → Type 0
IsStop [] = Unit {0}
IsStop (b ∷ bs) = is_ascii_digit b ≡ false

prefix_stop : (rest : List ℕ) → IsStop rest → prefix_len is_ascii_digit rest ≡ 0
unfolding IsStop
prefix_stop [] h = refl
prefix_stop (b ∷ bs) h = ap (λ t. cond t (1 + prefix_len is_ascii_digit bs) 0) h

prefix_digits : (ds rest : List ℕ) → AllDigits 10 ds → IsStop rest → prefix_len is_ascii_digit (ds ++ rest) ≡ length ds
prefix_digits [] rest h s = prefix_stop rest s
prefix_digits (d ∷ ds) rest h s =
    ap (λ t. cond t (1 + prefix_len is_ascii_digit (ds ++ rest)) 0) (below_digit d h.0)
    ∙ omega (arith, prefix_digits ds rest h.1 s)

front_is : (ds rest : List ℕ) → AllDigits 10 ds → IsStop rest → ds ≡ take_while is_ascii_digit (ds ++ rest)
front_is ds rest h s = sym (ap (λ n. take n (ds ++ rest)) (prefix_digits ds rest h s) ∙ take-append_seam ds rest)

rest_is : (ds rest : List ℕ) → AllDigits 10 ds → IsStop rest → rest ≡ drop (prefix_len is_ascii_digit (ds ++ rest)) (ds ++ rest)
rest_is ds rest h s = sym (ap (λ n. drop n (ds ++ rest)) (prefix_digits ds rest h s) ∙ drop-append_seam ds rest)

-- Units begin with neither a digit nor the point.
other_first : (b c : ℕ) (bs cs : List ℕ) → b ≢ c → bytes_eq (b ∷ bs) (c ∷ cs) ≡ false
other_first b c bs cs h = grind (arith, nat_tests)

some_none : (n : ℕ) → Some n ≡ None → ⊥
some_none n e = cc

no_unit : (b : ℕ) (bs : List ℕ) → b ≤ 57 → unit_size (b ∷ bs) ≡ None
no_unit b bs h = rw (other_first b 115 bs [] (omega arith), other_first b 109 bs (115 ∷ []) (omega arith), other_first b 109 bs [] (omega arith), other_first b 104 bs [] (omega arith), other_first b 100 bs [] (omega arith)) refl

unit_first : (b : ℕ) (bs : List ℕ) (size : ℕ) → unit_size (b ∷ bs) ≡ Some size → 57 < b
unit_first b bs size e = elim (cases_lt 57 b) [ inl h ↦ h | inr h ↦ let none : unit_size (b ∷ bs) ≡ None = no_unit b bs h in absurd (some_none size (sym e ∙ none)) ]

unit_stops : (unit : List ℕ) (size : ℕ) → unit_size unit ≡ Some size → IsStop unit
unfolding IsStop
unit_stops [] size e = tt
unit_stops (b ∷ bs) size e = let high = unit_first b bs size e in grind (arith, nat_tests)

-- A number as it is written is split as the reading splits it.
rest_stops : (behind unit : List ℕ) (size : ℕ) → unit_size unit ≡ Some size → IsStop (pointed behind ++ unit)
unfolding IsStop
rest_stops [] unit size e = unit_stops unit size e
rest_stops (d ∷ ds) unit size e = refl

no_behind : (unit : List ℕ) (size : ℕ) → unit_size unit ≡ Some size → digits_behind unit ≡ []
no_behind [] size e = refl
no_behind (b ∷ bs) size e =
    let high = unit_first b bs size e in
    let other : (b == 46) ≡ false = grind (arith, nat_tests) in
    ap (λ t. if t then take_while is_ascii_digit bs else []) other

behind_is : (behind unit : List ℕ) (size : ℕ) → AllDigits 10 behind → unit_size unit ≡ Some size → behind ≡ digits_behind (pointed behind ++ unit)
behind_is [] unit size h e = sym (no_behind unit size e)
behind_is (d ∷ ds) unit size h e = front_is (d ∷ ds) unit h (unit_stops unit size e)

unit_is : (behind unit : List ℕ) (size : ℕ) → AllDigits 10 behind → unit_size unit ≡ Some size → unit ≡ drop (length (pointed (digits_behind (pointed behind ++ unit)))) (pointed behind ++ unit)
unit_is behind unit size h e =
    sym (ap (λ ds. drop (length (pointed ds)) (pointed behind ++ unit)) (sym (behind_is behind unit size h e)) ∙ drop-append_seam (pointed behind) unit)

numeral_length : (whole : List ℕ) → IsNumeral 10 whole → (length whole == 0) ≡ false
numeral_length whole h = let some = h.0 in grind (arith, nat_tests)

read_written : (text whole behind unit : List ℕ) (size : ℕ) → IsWritten text whole behind unit → unit_size unit ≡ Some size → number_read text ≡ scaled whole behind size
read_written text whole behind unit size w e =
    let rest : List ℕ = pointed behind ++ unit in
    let stop : IsStop rest = rest_stops behind unit size e in
    ap number_read w.spelled
    ∙ read_some (whole ++ rest) whole rest behind unit size (front_is whole rest w.digits.1 stop) (rest_is whole rest w.digits.1 stop) (behind_is behind unit size w.more_digits e) (unit_is behind unit size w.more_digits e) (numeral_length whole w.digits) e

pub spells_read : (text : List ℕ) (n : ℕ) → n < 2 ^ 63 → Spells text (pos n) → number_read text ≡ Some (pos n)
spells_read text n small (whole, behind, unit, size, w, e, f) =
    read_written text whole behind unit size w e ∙ scaled_number whole behind size n f ∙ ranged_small n small

-- And what is read is spelled.
point_split : (ds tail : List ℕ) → 46 ∷ (ds ++ tail) ≡ pointed ds ++ drop (length (pointed ds)) (46 ∷ (ds ++ tail))
point_split [] tail = refl
point_split (d ∷ ds) tail = sym (ap (λ r. (46 ∷ d ∷ ds) ++ r) (drop-append_seam (46 ∷ d ∷ ds) tail))

split_point : (b : ℕ) (bs : List ℕ) (t : Bool) → (b == 46) ≡ t → b ∷ bs ≡ pointed (if t then take_while is_ascii_digit bs else []) ++ drop (length (pointed (if t then take_while is_ascii_digit bs else []))) (b ∷ bs)
split_point b bs true e =
    let point : b ≡ 46 = grind (arith, nat_tests) in
    let ds : List ℕ = take_while is_ascii_digit bs in
    let whole : ds ++ drop (prefix_len is_ascii_digit bs) bs ≡ bs = take-append-drop (prefix_len is_ascii_digit bs) bs in
    let here : 46 ∷ bs ≡ pointed ds ++ drop (length (pointed ds)) (46 ∷ bs) = subst (λ x. 46 ∷ x ≡ pointed ds ++ drop (length (pointed ds)) (46 ∷ x)) whole (point_split ds (drop (prefix_len is_ascii_digit bs) bs)) in
    subst (λ x. x ∷ bs ≡ pointed ds ++ drop (length (pointed ds)) (x ∷ bs)) (sym point) here
split_point b bs false e = refl

split_behind : (rest : List ℕ) → rest ≡ pointed (digits_behind rest) ++ drop (length (pointed (digits_behind rest))) rest
split_behind [] = refl
split_behind (b ∷ bs) = split_point b bs (b == 46) refl

written : (text : List ℕ) → (length (take_while is_ascii_digit text) == 0) ≡ false → (let rest = drop (prefix_len is_ascii_digit text) text in IsWritten text (take_while is_ascii_digit text) (digits_behind rest) (drop (length (pointed (digits_behind rest))) rest))
written text e =
    let rest : List ℕ = drop (prefix_len is_ascii_digit text) text in
    let whole : List ℕ = take_while is_ascii_digit text in
    let split : whole ++ rest ≡ text = take-append-drop (prefix_len is_ascii_digit text) text in
    let some : 0 < length whole = grind (arith, nat_tests) in
    record {
      spelled = sym split ∙ ap (λ r. whole ++ r) (split_behind rest);
      digits = (some, front_digits text);
      more_digits = behind_digits rest;
    }

unit_case : (text : List ℕ) (z : ℤ) → number_read text ≡ Some z → (length (take_while is_ascii_digit text) == 0) ≡ false → (o : Option ℕ) → (let rest = drop (prefix_len is_ascii_digit text) text in unit_size (drop (length (pointed (digits_behind rest))) rest) ≡ o) → Spells text z
unit_case text z e w None u = absurd (none_some z (sym (read_none text _ _ _ _ refl refl refl refl w u) ∙ e))
unit_case text z e w (Some size) u =
    let s = scaled_some (take_while is_ascii_digit text) (digits_behind (drop (prefix_len is_ascii_digit text) text)) size z (sym (read_some text _ _ _ _ size refl refl refl refl w u) ∙ e) in
    subst (Spells text) (sym s.1) (_, _, _, size, written text w, u, s.2)

digits_case : (text : List ℕ) (z : ℤ) → number_read text ≡ Some z → (t : Bool) → (length (take_while is_ascii_digit text) == 0) ≡ t → Spells text z
digits_case text z e true w = absurd (none_some z (sym (read_empty text _ _ _ _ refl refl refl refl w) ∙ e))
digits_case text z e false w = unit_case text z e w _ refl

pub read_spells : (text : List ℕ) (z : ℤ) → number_read text ≡ Some z → Spells text z
read_spells text z e = digits_case text z e _ refl

pub spelled_if : (text : List ℕ) (r : Option ℤ) → r ≡ number_read text → IfSome r (Spells text)
spelled_if text None e = tt
spelled_if text (Some z) e = read_spells text z (sym e)
