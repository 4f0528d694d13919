-- What a step says of the text is so.
use Rattle.std.proofs.Common.{◌≡◌, ℕ, ℤ, ◌+◌, ◌<◌, ◌≤◌, ◌==◌, List, [], ◌∷◌, ◌++◌, length, take, drop, Bool, true, false, cond, codes, Option, Some, None, refl, sym, ap, ◌∙◌, subst, append_assoc, arith}
use Rattle.std.proofs.lemmas.List.{length-append}
use Rattle.std.proofs.lemmas.Bool.Decides.{nat_tests}
use Rattle.std.proofs.lemmas.Str.{IsUtf8-from_is_utf8}
use Rattle.std.specs.Char.{is_ascii_digit}
use Rattle.std.specs.List.{list_all, prefix_len}
use Rattle.std.specs.Str.{is_utf8}
use Rattle.site_base.specs.Reading.{number_read}
use Rattle.dsl_lexer.specs.declared.word.Word.{Word}
use Rattle.dsl_lexer.specs.declared.mark.Mark.{Mark}
use Rattle.dsl_lexer.specs.declared.mark.Mark.TheVariants as mark
use Rattle.dsl_lexer.specs.declared.token_kind.TokenKind.{TokenKind}
use Rattle.dsl_lexer.specs.declared.token_kind.TokenKind.TheVariants as kind
use Rattle.dsl_lexer.specs.declared.stepping.Step.{Step}
use Rattle.dsl_lexer.specs.declared.stepping.Step.TheVariants as step
use Rattle.dsl_lexer.specs.Letters.{is_blank, is_name_start, is_name_byte, is_inner, goes_on}
use Rattle.dsl_lexer.specs.Words.{word_of}
use Rattle.dsl_lexer.specs.Marks.{mark_spelling, mark_of}
use Rattle.dsl_lexer.specs.Strings.{Body, closed, broken, body_of}
use Rattle.dsl_lexer.specs.Steps.{name_kind, name_at, number_len, number_step, number_at, text_step, string_step, find_end, comment_step, long_step, mark_step, mark_at, newline_step, step_at}
use Rattle.dsl_lexer.specs.Tokens.{Gap, blank, newline, line_comment, block_comment, IsGap, IsToken, IsLongest, begins_line, is_name, ends_number, Quoting, quotes, braces, IsString}
use Rattle.dsl_lexer.proofs.Bytes.{both, both_second, run, take_front, at_least}
use Rattle.dsl_lexer.proofs.WordLaws.{word_sound, word_none}
use Rattle.dsl_lexer.proofs.MarkLaws.{mark_sound, begins_front, mark_some}
use Rattle.dsl_lexer.proofs.EndLaws.{end_sound}
use Rattle.dsl_lexer.proofs.BodyLaws.{body_sound}
use Rattle.dsl_lexer.proofs.NumberLaws.{number_front}

pub record GapFront (keeps : Bool) (bs : List ℕ) (n : ℕ) : Type 0 where
  pub gap : Gap
  pub text : List ℕ
  pub rest : List ℕ
  pub whole : bs ≡ text ++ rest
  pub size : length text ≡ n
  pub some : 0 < n
  pub is : IsGap keeps gap text rest

pub record TokenFront (keeps : Bool) (k : TokenKind) (bs : List ℕ) (n : ℕ) : Type 0 where
  pub text : List ℕ
  pub rest : List ℕ
  pub whole : bs ≡ text ++ rest
  pub size : length text ≡ n
  pub some : 0 < n
  pub is : IsToken keeps k text rest

-- what a step claims
abbrev pub Tells : Bool → List ℕ → Step → Type 0
Tells keeps bs (step.Passed n) = GapFront keeps bs n
Tells keeps bs (step.Taken n k) = TokenFront keeps k bs n
Tells keeps bs step.Fault = Unit {0}

name_text : (b : ℕ) (bs text rest : List ℕ) → b ∷ bs ≡ text ++ rest → 0 < length text → is_name_start b ≡ true → list_all is_name_byte text ≡ true → is_name text ≡ true
name_text b bs [] rest e some s h = absurd (omega arith)
name_text b bs (x ∷ xs) rest e some s h =
    let same : b ≡ x = cc in
    both _ _ (ap is_name_start (sym same) ∙ s) (both_second (is_name_byte x) (list_all is_name_byte xs) h)

start_goes_on : (b : ℕ) → is_name_start b ≡ true → is_name_byte b ≡ true
start_goes_on b h = grind (arith, nat_tests)

name_tells : (keeps : Bool) (b : ℕ) (bs : List ℕ) → is_name_start b ≡ true → Tells keeps (b ∷ bs) (name_at (b ∷ bs))
unfolding name_at
name_tells keeps b bs s =
    let r = run is_name_byte (b ∷ bs) in
    let n : ℕ = prefix_len is_name_byte (b ∷ bs) in
    let some : 0 < n = (let e : n ≡ 1 + prefix_len is_name_byte bs = ap (λ t. cond t (1 + prefix_len is_name_byte bs) 0) (start_goes_on b s) in omega arith) in
    let front : take n (b ∷ bs) ≡ r.text = ap (take n) r.whole ∙ take_front r.text r.rest n r.size in
    let sure : 0 < length r.text = omega (arith, r.size) in
    subst (λ t. TokenFront keeps (name_kind (word_of t) t) (b ∷ bs) n) (sym front)
    (by r.text r.rest n r.whole r.size some (name_text b bs r.text r.rest r.whole sure s r.passes) r.stops (word_of r.text) refl)
  where
    by : (text rest : List ℕ) (n : ℕ) → b ∷ bs ≡ text ++ rest → length text ≡ n → 0 < n → is_name text ≡ true → goes_on rest ≡ false → (o : Option Word) → word_of text ≡ o → TokenFront keeps (name_kind o text) (b ∷ bs) n
    by text rest n whole size some name stops None e = record { text = text; rest = rest; whole = whole; size = size; some = some; is = (refl, name, word_none text e, stops) }
    by text rest n whole size some name stops (Some w) e = record { text = text; rest = rest; whole = whole; size = size; some = some; is = (word_sound text w e, stops) }

number_tells : (keeps : Bool) (b : ℕ) (bs : List ℕ) → is_ascii_digit b ≡ true → Tells keeps (b ∷ bs) (number_at (b ∷ bs))
unfolding number_at
number_tells keeps b bs digit =
    let f = number_front b bs digit in
    let n : ℕ = number_len (b ∷ bs) in
    let front : take n (b ∷ bs) ≡ f.text = ap (take n) f.whole ∙ take_front f.text f.rest n f.size in
    subst (λ t. Tells keeps (b ∷ bs) (number_step n (number_read t))) (sym front) (by f.text f.rest n f.whole f.size (omega (arith, f.size, f.some)) f.stops (number_read f.text) refl)
  where
    by : (text rest : List ℕ) (n : ℕ) → b ∷ bs ≡ text ++ rest → length text ≡ n → 0 < n → ends_number text rest ≡ true → (o : Option ℤ) → number_read text ≡ o → Tells keeps (b ∷ bs) (number_step n o)
    by text rest n whole size some stops None e = tt
    by text rest n whole size some stops (Some z) e = record { text = text; rest = rest; whole = whole; size = size; some = some; is = (e, stops) }

text_tells : (keeps : Bool) (bs text rest value : List ℕ) (n : ℕ) (quoting : Quoting) → bs ≡ text ++ rest → length text ≡ n → 0 < n → IsString quoting text value → Tells keeps bs (text_step n value)
text_tells keeps bs text rest value n quoting whole size some is = by (is_utf8 value) refl
  where
    by : (t : Bool) → is_utf8 value ≡ t → Tells keeps bs (cond t (step.Taken n (kind.Str value)) step.Fault)
    by true e = record { text = text; rest = rest; whole = whole; size = size; some = some; is = (quoting, is, IsUtf8-from_is_utf8 value e) }
    by false e = tt

line_tells : (keeps : Bool) (bs : List ℕ) (m : Mark) → begins_line m ≡ true → list_all is_inner (mark_spelling m) ≡ true → IsLongest m bs → Tells keeps bs (step.Passed (prefix_len is_inner bs))
line_tells keeps bs m line inner longest =
    let r = run is_inner bs in
    let front = begins_front m bs longest.stands in
    let least : length (mark_spelling m) ≤ prefix_len is_inner bs = subst (λ xs. length (mark_spelling m) ≤ prefix_len is_inner xs) (sym front) (at_least is_inner (mark_spelling m) (drop (length (mark_spelling m)) bs) inner) in
    let some : 0 < length (mark_spelling m) = mark_some m in
    record {
      gap = line_comment m;
      text = r.text;
      rest = r.rest;
      whole = r.whole;
      size = r.size;
      some = omega arith;
      is = (line, subst (IsLongest m) r.whole longest, r.passes, omega (arith, r.size, least), r.stops);
    }

comment_tells : (keeps : Bool) (xs : List ℕ) (o : Option ℕ) → find_end (codes "*/") xs ≡ o → Tells keeps (codes "/*" ++ xs) (comment_step o)
comment_tells keeps xs None e = tt
comment_tells keeps xs (Some n) e =
    let f = end_sound (codes "*/") xs n e in
    record {
      gap = block_comment f.body;
      text = codes "/*" ++ (f.body ++ codes "*/");
      rest = f.rest;
      whole = ap (λ ys. codes "/*" ++ ys) f.whole;
      size = omega (arith, length-append f.body (codes "*/"), f.size);
      some = omega arith;
      is = (f.body ++ codes "*/", refl, f.is);
    }

long_tells : (keeps : Bool) (xs : List ℕ) (o : Option ℕ) → find_end (codes "}}}") xs ≡ o → Tells keeps (codes "{{{" ++ xs) (long_step xs o)
long_tells keeps xs None e = tt
long_tells keeps xs (Some n) e =
    let f = end_sound (codes "}}}") xs n e in
    let front : take n xs ≡ f.body = ap (take n) (f.whole ∙ append_assoc f.body (codes "}}}") f.rest) ∙ take_front f.body (codes "}}}" ++ f.rest) n f.size in
    subst (λ v. Tells keeps (codes "{{{" ++ xs) (text_step (6 + n) v)) (sym front)
    (text_tells keeps (codes "{{{" ++ xs) (codes "{{{" ++ (f.body ++ codes "}}}")) f.rest f.body (6 + n) braces (ap (λ ys. codes "{{{" ++ ys) f.whole) (omega (arith, length-append f.body (codes "}}}"), f.size)) (omega arith) (f.body ++ codes "}}}", refl, f.is))

string_tells : (keeps : Bool) (xs : List ℕ) (r : Body) → body_of xs ≡ r → Tells keeps (34 ∷ xs) (string_step r)
string_tells keeps xs broken e = tt
string_tells keeps xs (closed value n) e =
    let f = body_sound (length xs) xs value n e in
    text_tells keeps (34 ∷ xs) (34 ∷ f.text) f.rest value (1 + n) quotes (ap (λ ys. 34 ∷ ys) f.whole) (omega (arith, f.size)) (omega arith) (f.text, refl, f.is)

mark_tells : (keeps : Bool) (bs : List ℕ) → Tells keeps bs (mark_at bs)
unfolding mark_at
mark_tells keeps bs = by (mark_of bs) refl
  where
    by : (o : Option Mark) → mark_of bs ≡ o → Tells keeps bs (mark_step bs o)
    by None e = tt
    by (Some (mark.Sign s)) e =
        let l = mark_sound bs (mark.Sign s) e in
        let front = begins_front (mark.Sign s) bs l.stands in
        record {
          text = mark_spelling (mark.Sign s);
          rest = drop (length (mark_spelling (mark.Sign s))) bs;
          whole = front;
          size = refl;
          some = mark_some (mark.Sign s);
          is = (refl, subst (IsLongest (mark.Sign s)) front l);
        }
    by (Some mark.Hash) e = line_tells keeps bs mark.Hash refl refl (mark_sound bs mark.Hash e)
    by (Some mark.DoubleSlash) e = line_tells keeps bs mark.DoubleSlash refl refl (mark_sound bs mark.DoubleSlash e)
    by (Some mark.BlockComment) e =
        let front : bs ≡ codes "/*" ++ drop 2 bs = begins_front mark.BlockComment bs (mark_sound bs mark.BlockComment e).stands in
        subst (λ xs. Tells keeps xs (comment_step (find_end (codes "*/") (drop 2 bs)))) (sym front) (comment_tells keeps (drop 2 bs) (find_end (codes "*/") (drop 2 bs)) refl)
    by (Some mark.LongString) e =
        let front : bs ≡ codes "{{{" ++ drop 3 bs = begins_front mark.LongString bs (mark_sound bs mark.LongString e).stands in
        subst (λ xs. Tells keeps xs (long_step (drop 3 bs) (find_end (codes "}}}") (drop 3 bs)))) (sym front) (long_tells keeps (drop 3 bs) (find_end (codes "}}}") (drop 3 bs)) refl)
    by (Some mark.Quote) e =
        let front : bs ≡ 34 ∷ drop 1 bs = begins_front mark.Quote bs (mark_sound bs mark.Quote e).stands in
        subst (λ xs. Tells keeps xs (string_step (body_of (drop 1 bs)))) (sym front) (string_tells keeps (drop 1 bs) (body_of (drop 1 bs)) refl)

newline_tells : (keeps : Bool) (bs : List ℕ) → Tells keeps (10 ∷ bs) (newline_step keeps)
newline_tells true bs = record { text = 10 ∷ []; rest = bs; whole = refl; size = refl; some = omega arith; is = (refl, refl) }
newline_tells false bs = record { gap = newline; text = 10 ∷ []; rest = bs; whole = refl; size = refl; some = omega arith; is = (refl, refl) }

pub step_tells : (keeps : Bool) (bs : List ℕ) → Tells keeps bs (step_at keeps bs)
unfolding step_at
step_tells keeps [] = tt
step_tells keeps (b ∷ bs) = by (is_blank b) (b == 10) (is_name_start b) (is_ascii_digit b) refl refl refl refl
  where
    by : (p q r s : Bool) → is_blank b ≡ p → (b == 10) ≡ q → is_name_start b ≡ r → is_ascii_digit b ≡ s
        → Tells keeps (b ∷ bs) (cond p (step.Passed 1) (cond q (newline_step keeps) (cond r (name_at (b ∷ bs)) (cond s (number_at (b ∷ bs)) (mark_at (b ∷ bs))))))
    by true q r s hp hq hr hs = record { gap = blank b; text = b ∷ []; rest = bs; whole = refl; size = refl; some = omega arith; is = (hp, refl) }
    by false true r s hp hq hr hs = let is : 10 ≡ b = grind (arith, nat_tests) in subst (λ x. Tells keeps (x ∷ bs) (newline_step keeps)) is (newline_tells keeps bs)
    by false false true s hp hq hr hs = name_tells keeps b bs hr
    by false false false true hp hq hr hs = number_tells keeps b bs hs
    by false false false false hp hq hr hs = mark_tells keeps (b ∷ bs)

pub passed_within : (keeps : Bool) (bs : List ℕ) (n : ℕ) → step.Passed n ≡ step_at keeps bs → (0 < n) × (n ≤ length bs)
passed_within keeps bs n e =
    let f : GapFront keeps bs n = subst (Tells keeps bs) (sym e) (step_tells keeps bs) in
    (f.some, omega (arith, ap length f.whole, length-append f.text f.rest, f.size))

pub taken_within : (keeps : Bool) (bs : List ℕ) (n : ℕ) (k : TokenKind) → step.Taken n k ≡ step_at keeps bs → (0 < n) × (n ≤ length bs)
taken_within keeps bs n k e =
    let f : TokenFront keeps k bs n = subst (Tells keeps bs) (sym e) (step_tells keeps bs) in
    (f.some, omega (arith, ap length f.whole, length-append f.text f.rest, f.size))
