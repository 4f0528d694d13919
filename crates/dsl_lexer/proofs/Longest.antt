-- A token is the longest spelling with which a text begins.
use Rattle.std.proofs.Common.{◌≡◌, ℕ, ℤ, zero, suc, ◌+◌, ◌<◌, ◌≤◌, List, [], ◌∷◌, ◌++◌, length, take, drop, Bool, true, false, cond, codes, Option, Some, None, refl, sym, ap, ◌∙◌, subst, append_assoc, arith}
use Rattle.std.proofs.Math.Seq.{drop-append-add}
use Rattle.std.proofs.lemmas.List.{length-append}
use Rattle.std.specs.Char.{is_ascii_digit}
use Rattle.std.specs.List.{list_all, prefix_len}
use Rattle.std.specs.Str.{is_utf8}
use Rattle.site_base.specs.Reading.{unit_size, pointed, number_read, IsWritten}
use Rattle.dsl_lexer.specs.declared.mark.Mark.{Mark}
use Rattle.dsl_lexer.specs.declared.mark.Mark.TheVariants as mark
use Rattle.dsl_lexer.specs.declared.token_kind.TokenKind.{TokenKind}
use Rattle.dsl_lexer.specs.declared.token_kind.TokenKind.TheVariants as kind
use Rattle.dsl_lexer.specs.declared.stepping.Step.TheVariants as step
use Rattle.dsl_lexer.specs.Letters.{is_name_byte, follows}
use Rattle.dsl_lexer.specs.Marks.{mark_spelling, mark_of, begins}
use Rattle.dsl_lexer.specs.Steps.{name_at, pointed_len, fraction_len, number_len, number_step, number_at, text_step, string_step, find_end, comment_step, long_step, mark_step, mark_at, newline_step, step_at}
use Rattle.dsl_lexer.specs.Strings.{Body, closed, broken, body_of}
use Rattle.dsl_lexer.specs.Tokens.{IsToken, is_name, Quoting, quotes, braces, IsString}
use Rattle.dsl_lexer.specs.Longest.{IsSpelling}
use Rattle.dsl_lexer.proofs.Bytes.{both_first, drop_front, run_whole, at_least}
use Rattle.dsl_lexer.proofs.WordLaws.{word_is_name}
use Rattle.dsl_lexer.proofs.MarkLaws.{mark_sound, mark_none, begins_front}
use Rattle.dsl_lexer.proofs.EndLaws.{end_complete}
use Rattle.dsl_lexer.proofs.BodyLaws.{body_complete}
use Rattle.dsl_lexer.proofs.NumberLaws.{IsUnit, unit_is, all_digits, pointed_some, number_by}
use Rattle.dsl_lexer.proofs.FirstBytes.{mark_first}
use Rattle.dsl_lexer.proofs.StepReads.{name_goes, name_bytes, number_goes, numeral_starts, long_goes, quote_goes, newline_reads, token_reads}

-- a number's form takes no more bytes than the lexer gives it
form_by : (whole behind unit rest : List ℕ) → list_all is_ascii_digit whole ≡ true → list_all is_ascii_digit behind ≡ true → IsUnit unit
    → (length whole + length (pointed behind)) + length unit ≤ number_len (whole ++ (pointed behind ++ (unit ++ rest)))
form_by whole [] [] rest hw hb u = omega (arith, at_least is_ascii_digit whole rest hw)
form_by whole [] (x ∷ unit) rest hw hb u =
    let bs : List ℕ = whole ++ ((x ∷ unit) ++ rest) in
    let first : prefix_len is_ascii_digit bs ≡ length whole = run_whole is_ascii_digit whole ((x ∷ unit) ++ rest) hw u.start in
    let second : fraction_len (drop (length whole) bs) ≡ 0 = ap fraction_len (drop_front whole ((x ∷ unit) ++ rest) (length whole) refl) ∙ u.no_point rest (omega arith) in
    let left : drop (length whole + 0) bs ≡ (x ∷ unit) ++ rest = drop-append-add whole ((x ∷ unit) ++ rest) 0 in
    let third : length (x ∷ unit) ≤ prefix_len is_name_byte (drop (length whole + 0) bs) = subst (λ xs. length (x ∷ unit) ≤ prefix_len is_name_byte xs) (sym left) (at_least is_name_byte (x ∷ unit) rest u.name) in
    omega (arith, number_by bs (length whole) 0 first second, third)
form_by whole (d ∷ ds) [] rest hw hb u =
    let bs : List ℕ = whole ++ (46 ∷ ((d ∷ ds) ++ rest)) in
    let q : ℕ = prefix_len is_ascii_digit ((d ∷ ds) ++ rest) in
    let first : prefix_len is_ascii_digit bs ≡ length whole = run_whole is_ascii_digit whole (46 ∷ ((d ∷ ds) ++ rest)) hw refl in
    let second : fraction_len (drop (length whole) bs) ≡ pointed_len q = ap fraction_len (drop_front whole (46 ∷ ((d ∷ ds) ++ rest)) (length whole) refl) in
    let digits : length (d ∷ ds) ≤ q = at_least is_ascii_digit (d ∷ ds) rest hb in
    let long : length (d ∷ ds) + 1 ≤ pointed_len q = pointed_long q (length (d ∷ ds)) digits (omega arith) in
    omega (arith, number_by bs (length whole) (pointed_len q) first second, long)
  where
    pointed_long : (q n : ℕ) → n ≤ q → 0 < n → n + 1 ≤ pointed_len q
    pointed_long zero n h k = absurd (omega arith)
    pointed_long (suc q) n h k = omega (arith, pointed_some q)
form_by whole (d ∷ ds) (x ∷ unit) rest hw hb u =
    let bs : List ℕ = whole ++ (46 ∷ ((d ∷ ds) ++ ((x ∷ unit) ++ rest))) in
    let f : ℕ = suc (suc (length ds)) in
    let first : prefix_len is_ascii_digit bs ≡ length whole = run_whole is_ascii_digit whole (46 ∷ ((d ∷ ds) ++ ((x ∷ unit) ++ rest))) hw refl in
    let second : fraction_len (drop (length whole) bs) ≡ f =
    ap fraction_len (drop_front whole (46 ∷ ((d ∷ ds) ++ ((x ∷ unit) ++ rest))) (length whole) refl)
    ∙ (ap pointed_len (run_whole is_ascii_digit (d ∷ ds) ((x ∷ unit) ++ rest) hb u.start) ∙ pointed_some (length ds)) in
    let left : drop (length whole + f) bs ≡ (x ∷ unit) ++ rest =
    drop-append-add whole (46 ∷ ((d ∷ ds) ++ ((x ∷ unit) ++ rest))) f ∙ drop_front (d ∷ ds) ((x ∷ unit) ++ rest) (length (d ∷ ds)) refl in
    let third : length (x ∷ unit) ≤ prefix_len is_name_byte (drop (length whole + f) bs) = subst (λ xs. length (x ∷ unit) ≤ prefix_len is_name_byte xs) (sym left) (at_least is_name_byte (x ∷ unit) rest u.name) in
    omega (arith, number_by bs (length whole) f first second, third)

form_fits : (text rest whole behind unit : List ℕ) (size : ℕ) → IsWritten text whole behind unit → unit_size unit ≡ Some size → length text ≤ number_len (text ++ rest)
form_fits text rest whole behind unit size w e =
    let split : text ++ rest ≡ whole ++ (pointed behind ++ (unit ++ rest)) =
    ap (λ xs. xs ++ rest) w.spelled ∙ (append_assoc whole (pointed behind ++ unit) rest ∙ ap (λ xs. whole ++ xs) (append_assoc (pointed behind) unit rest)) in
    let least = form_by whole behind unit rest (all_digits whole w.digits.1) (all_digits behind w.more_digits) (unit_is unit size e) in
    omega (arith, ap number_len split, least, ap length w.spelled, length-append whole (pointed behind ++ unit), length-append (pointed behind) unit)

-- the first byte decides what may begin there
name_long : (keeps : Bool) (name rest : List ℕ) (n : ℕ) (k : TokenKind) → is_name name ≡ true → step_at keeps (name ++ rest) ≡ step.Taken n k → length name ≤ n
unfolding name_at
name_long keeps [] rest n k h e = absurd cc
name_long keeps (b ∷ bs) rest n k h e =
    let goes : step_at keeps ((b ∷ bs) ++ rest) ≡ name_at ((b ∷ bs) ++ rest) = name_goes keeps b (bs ++ rest) (both_first _ _ h) in
    let len : prefix_len is_name_byte ((b ∷ bs) ++ rest) ≡ n = (let same = sym goes ∙ e in cc) in
    omega (arith, len, at_least is_name_byte (b ∷ bs) rest (name_bytes (b ∷ bs) h))

number_taken : (n m : ℕ) (k : TokenKind) (o : Option ℤ) → number_step n o ≡ step.Taken m k → n ≡ m
number_taken n m k None e = cc
number_taken n m k (Some z) e = cc

number_long : (keeps : Bool) (text rest : List ℕ) (n : ℕ) (k : TokenKind) → follows is_ascii_digit text ≡ true → length text ≤ number_len (text ++ rest) → step_at keeps (text ++ rest) ≡ step.Taken n k → length text ≤ n
unfolding number_at
number_long keeps [] rest n k h l e = absurd cc
number_long keeps (b ∷ bs) rest n k h l e =
    let goes = number_goes keeps b (bs ++ rest) h in
    let len : number_len ((b ∷ bs) ++ rest) ≡ n = number_taken _ n k (number_read (take (number_len ((b ∷ bs) ++ rest)) ((b ∷ bs) ++ rest))) (sym goes ∙ e) in
    omega (arith, len, l)

text_taken : (n m : ℕ) (value : List ℕ) (k : TokenKind) → text_step n value ≡ step.Taken m k → n ≡ m
text_taken n m value k e = by (is_utf8 value) e
  where
    by : (t : Bool) → cond t (step.Taken n (kind.Str value)) step.Fault ≡ step.Taken m k → n ≡ m
    by true e = cc
    by false e = cc

string_long : (keeps : Bool) (quoting : Quoting) (text rest value : List ℕ) (n : ℕ) (k : TokenKind) → IsString quoting text value → step_at keeps (text ++ rest) ≡ step.Taken n k → length text ≤ n
string_long keeps quotes text rest value n k h e =
    let read : step_at keeps (text ++ rest) ≡ text_step (1 + length h.0) value =
    ap (λ t. step_at keeps (t ++ rest)) h.1 ∙ (quote_goes keeps (h.0 ++ rest) ∙ ap string_step (body_complete value h.0 rest (length (h.0 ++ rest)) (omega (arith, length-append h.0 rest)) h.2)) in
    omega (arith, ap length h.1, text_taken (1 + length h.0) n value k (sym read ∙ e))
string_long keeps braces text rest value n k h e =
    let read : step_at keeps (text ++ rest) ≡ text_step (6 + length value) (take (length value) (h.0 ++ rest)) =
    ap (λ t. step_at keeps (t ++ rest)) h.1 ∙ (long_goes keeps (h.0 ++ rest) ∙ ap (long_step (h.0 ++ rest)) (end_complete 125 (125 ∷ 125 ∷ []) value h.0 rest h.2)) in
    omega (arith, ap length h.1, ap length h.2.whole, length-append value (codes "}}}"), text_taken (6 + length value) n (take (length value) (h.0 ++ rest)) k (sym read ∙ e))

mark_taken : (bs : List ℕ) (m : Mark) (n : ℕ) (k : TokenKind) → mark_step bs (Some m) ≡ step.Taken n k → length (mark_spelling m) ≤ n
mark_taken bs (mark.Sign s) n k e = let same : length (mark_spelling (mark.Sign s)) ≡ n = cc in omega arith
mark_taken bs mark.Hash n k e = absurd cc
mark_taken bs mark.DoubleSlash n k e = absurd cc
mark_taken bs mark.BlockComment n k e = absurd (by (find_end (codes "*/") (drop 2 bs)) e)
  where
    by : (o : Option ℕ) → comment_step o ≡ step.Taken n k → ⊥
    by None e = cc
    by (Some i) e = cc
mark_taken bs mark.LongString n k e = by (find_end (codes "}}}") (drop 3 bs)) e
  where
    by : (o : Option ℕ) → long_step (drop 3 bs) o ≡ step.Taken n k → 3 ≤ n
    by None e = absurd cc
    by (Some i) e = omega (arith, text_taken (6 + i) n (take i (drop 3 bs)) k e)
mark_taken bs mark.Quote n k e = by (body_of (drop 1 bs)) e
  where
    by : (r : Body) → string_step r ≡ step.Taken n k → 1 ≤ n
    by broken e = absurd cc
    by (closed value i) e = omega (arith, text_taken (1 + i) n value k e)

mark_long : (keeps : Bool) (m : Mark) (bs : List ℕ) (n : ℕ) (k : TokenKind) → begins m bs ≡ true → step_at keeps bs ≡ step.Taken n k → length (mark_spelling m) ≤ n
unfolding mark_at
mark_long keeps m bs n k h e = by (mark_of bs) refl
  where
    goes : step_at keeps bs ≡ mark_at bs
    goes = let front = begins_front m bs h in ap (step_at keeps) front ∙ (mark_first keeps m (drop (length (mark_spelling m)) bs) ∙ ap mark_at (sym front))

    by : (o : Option Mark) → mark_of bs ≡ o → length (mark_spelling m) ≤ n
    by None f = absurd (mark_none bs m f h)
    by (Some other) f =
        let longest = (mark_sound bs other f).longest m h in
        let taken : mark_step bs (Some other) ≡ step.Taken n k = ap (mark_step bs) (sym f) ∙ (sym goes ∙ e) in
        omega (arith, longest, mark_taken bs other n k taken)

newline_long : (keeps : Bool) (n : ℕ) (k : TokenKind) → newline_step keeps ≡ step.Taken n k → 1 ≤ n
newline_long true n k e = let same : 1 ≡ n = cc in omega arith
newline_long false n k e = absurd cc

spelled_long : (keeps : Bool) (other : TokenKind) (text rest : List ℕ) (n : ℕ) (k : TokenKind) → IsSpelling other text rest → step_at keeps (text ++ rest) ≡ step.Taken n k → length text ≤ n
spelled_long keeps (kind.Word w) text rest n k h e = name_long keeps text rest n k (subst (λ t. is_name t ≡ true) (sym h) (word_is_name w)) e
spelled_long keeps (kind.Ident name) text rest n k h e = name_long keeps text rest n k (subst (λ t. is_name t ≡ true) (sym h.0) h.1) e
spelled_long keeps (kind.Number z) text rest n k h e =
    let digit : follows is_ascii_digit text ≡ true = subst (λ t. follows is_ascii_digit t ≡ true) (sym h.4.spelled) (numeral_starts h.0 _ h.4.digits.0 h.4.digits.1) in
    number_long keeps text rest n k digit (form_fits text rest h.0 h.1 h.2 h.3 h.4 h.5) e
spelled_long keeps (kind.Str value) text rest n k h e = string_long keeps h.0 text rest value n k h.1 e
spelled_long keeps (kind.Sign s) text rest n k h e = omega (arith, ap length h.0, mark_long keeps (mark.Sign s) (text ++ rest) n k h.1 e)
spelled_long keeps kind.NewLine text rest n k h e =
    omega (arith, ap length h, newline_long keeps n k (sym (newline_reads keeps rest) ∙ (ap (λ t. step_at keeps (t ++ rest)) (sym h) ∙ e)))
spelled_long keeps kind.End text rest n k h e = absurd h

pub longest : (is_token : Bool) (k other : TokenKind) (text rest longer behind : List ℕ) → IsToken is_token k text rest → text ++ rest ≡ longer ++ behind → IsSpelling other longer behind → length longer ≤ length text
longest is_token k other text rest longer behind h e s =
    spelled_long is_token other longer behind (length text) k s (ap (step_at is_token) (sym e) ∙ token_reads is_token k text rest h)
