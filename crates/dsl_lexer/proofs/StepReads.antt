-- What stands at the front of a text is what a step finds.
use Rattle.std.proofs.Common.{◌≡◌, ℕ, ℤ, pos, negsuc, ◌+◌, ◌<◌, ◌==◌, List, [], ◌∷◌, ◌++◌, length, take, drop, Bool, true, false, cond, codes, Some, refl, sym, ap, ◌∙◌, subst, append_assoc, arith}
use Rattle.std.proofs.lemmas.List.{length-append}
use Rattle.std.proofs.lemmas.Bool.Decides.{nat_tests}
use Rattle.std.proofs.lemmas.Str.{is_utf8-from_IsUtf8}
use Rattle.std.specs.Char.{is_ascii_digit}
use Rattle.std.specs.List.{list_all, prefix_len}
use Rattle.std.specs.Str.{IsUtf8}
use Rattle.std.specs.Str.Parse.{AllDigits}
use Rattle.site_base.specs.Reading.{number_read, Spells}
use Rattle.site_base.proofs.Front.{below_digit}
use Rattle.site_base.proofs.Spelled.{read_spells}
use Rattle.dsl_lexer.specs.declared.mark.Mark.{Mark}
use Rattle.dsl_lexer.specs.declared.mark.Mark.TheVariants as mark
use Rattle.dsl_lexer.specs.declared.token_kind.TokenKind.{TokenKind}
use Rattle.dsl_lexer.specs.declared.token_kind.TokenKind.TheVariants as kind
use Rattle.dsl_lexer.specs.declared.stepping.Step.TheVariants as step
use Rattle.dsl_lexer.specs.Letters.{is_blank, is_name_start, is_name_byte, is_inner, follows, goes_on}
use Rattle.dsl_lexer.specs.Words.{word_of, word_spelling}
use Rattle.dsl_lexer.specs.Marks.{mark_spelling, mark_of}
use Rattle.dsl_lexer.specs.Strings.{body_of}
use Rattle.dsl_lexer.specs.Steps.{name_kind, name_at, number_len, number_step, number_at, text_step, string_step, find_end, comment_step, long_step, mark_step, mark_at, newline_step, step_at}
use Rattle.dsl_lexer.specs.Tokens.{Gap, blank, newline, line_comment, block_comment, begins_line, IsGap, IsToken, IsLongest, is_name, ends_number, Quoting, quotes, braces, IsString}
use Rattle.dsl_lexer.proofs.Bytes.{both, both_first, both_second, take_front, run_whole}
use Rattle.dsl_lexer.proofs.WordLaws.{word_found, word_is_name, none_word}
use Rattle.dsl_lexer.proofs.MarkLaws.{mark_complete, begins_front}
use Rattle.dsl_lexer.proofs.EndLaws.{end_complete}
use Rattle.dsl_lexer.proofs.BodyLaws.{body_complete}
use Rattle.dsl_lexer.proofs.NumberLaws.{number_complete}
use Rattle.dsl_lexer.proofs.FirstBytes.{mark_first}

-- the tests of a step, passed one after the other
blank_reads : (keeps : Bool) (b : ℕ) (rest : List ℕ) → is_blank b ≡ true → step_at keeps (b ∷ rest) ≡ step.Passed 1
unfolding step_at
blank_reads keeps b rest h =
    ap (λ t. cond t (step.Passed 1) (cond (b == 10) (newline_step keeps) (cond (is_name_start b) (name_at (b ∷ rest)) (cond (is_ascii_digit b) (number_at (b ∷ rest)) (mark_at (b ∷ rest)))))) h

pub newline_reads : (keeps : Bool) (rest : List ℕ) → step_at keeps (10 ∷ rest) ≡ newline_step keeps
unfolding step_at
newline_reads keeps rest = refl

pub name_goes : (keeps : Bool) (b : ℕ) (rest : List ℕ) → is_name_start b ≡ true → step_at keeps (b ∷ rest) ≡ name_at (b ∷ rest)
unfolding step_at
name_goes keeps b rest h =
    let not_blank : is_blank b ≡ false = grind (arith, nat_tests) in
    let not_newline : (b == 10) ≡ false = grind (arith, nat_tests) in
    ap (λ t. cond t (step.Passed 1) (cond (b == 10) (newline_step keeps) (cond (is_name_start b) (name_at (b ∷ rest)) (cond (is_ascii_digit b) (number_at (b ∷ rest)) (mark_at (b ∷ rest)))))) not_blank
    ∙ (ap (λ t. cond t (newline_step keeps) (cond (is_name_start b) (name_at (b ∷ rest)) (cond (is_ascii_digit b) (number_at (b ∷ rest)) (mark_at (b ∷ rest))))) not_newline
    ∙ ap (λ t. cond t (name_at (b ∷ rest)) (cond (is_ascii_digit b) (number_at (b ∷ rest)) (mark_at (b ∷ rest)))) h)

pub number_goes : (keeps : Bool) (b : ℕ) (rest : List ℕ) → is_ascii_digit b ≡ true → step_at keeps (b ∷ rest) ≡ number_at (b ∷ rest)
unfolding step_at
number_goes keeps b rest h =
    let not_blank : is_blank b ≡ false = grind (arith, nat_tests) in
    let not_newline : (b == 10) ≡ false = grind (arith, nat_tests) in
    let not_name : is_name_start b ≡ false = grind (arith, nat_tests) in
    ap (λ t. cond t (step.Passed 1) (cond (b == 10) (newline_step keeps) (cond (is_name_start b) (name_at (b ∷ rest)) (cond (is_ascii_digit b) (number_at (b ∷ rest)) (mark_at (b ∷ rest)))))) not_blank
    ∙ (ap (λ t. cond t (newline_step keeps) (cond (is_name_start b) (name_at (b ∷ rest)) (cond (is_ascii_digit b) (number_at (b ∷ rest)) (mark_at (b ∷ rest))))) not_newline
    ∙ (ap (λ t. cond t (name_at (b ∷ rest)) (cond (is_ascii_digit b) (number_at (b ∷ rest)) (mark_at (b ∷ rest)))) not_name
    ∙ ap (λ t. cond t (number_at (b ∷ rest)) (mark_at (b ∷ rest))) h))

pub name_bytes : (text : List ℕ) → is_name text ≡ true → list_all is_name_byte text ≡ true
name_bytes [] h = cc
name_bytes (b ∷ bs) h = both _ _ (start (both_first (is_name_start b) (list_all is_name_byte bs) h)) (both_second (is_name_start b) (list_all is_name_byte bs) h)
  where
    start : is_name_start b ≡ true → is_name_byte b ≡ true
    start h = grind (arith, nat_tests)

name_reads : (keeps : Bool) (text rest : List ℕ) → is_name text ≡ true → goes_on rest ≡ false → step_at keeps (text ++ rest) ≡ step.Taken (length text) (name_kind (word_of text) text)
unfolding name_at
name_reads keeps [] rest h g = absurd cc
name_reads keeps (b ∷ bs) rest h g =
    let len : prefix_len is_name_byte ((b ∷ bs) ++ rest) ≡ length (b ∷ bs) = run_whole is_name_byte (b ∷ bs) rest (name_bytes (b ∷ bs) h) g in
    let front : take (prefix_len is_name_byte ((b ∷ bs) ++ rest)) ((b ∷ bs) ++ rest) ≡ b ∷ bs = take_front (b ∷ bs) rest (prefix_len is_name_byte ((b ∷ bs) ++ rest)) (sym len) in
    name_goes keeps b (bs ++ rest) (both_first (is_name_start b) (list_all is_name_byte bs) h)
    ∙ (ap (λ t. step.Taken (prefix_len is_name_byte ((b ∷ bs) ++ rest)) (name_kind (word_of t) t)) front
    ∙ ap (λ n. step.Taken n (name_kind (word_of (b ∷ bs)) (b ∷ bs))) len)

pub numeral_starts : (whole xs : List ℕ) → 0 < length whole → AllDigits 10 whole → follows is_ascii_digit (whole ++ xs) ≡ true
numeral_starts [] xs some h = absurd (omega arith)
numeral_starts (d ∷ ds) xs some h = below_digit d h.0

number_starts : (text : List ℕ) (z : ℤ) → number_read text ≡ Some z → follows is_ascii_digit text ≡ true
number_starts text z e = by z (read_spells text z e)
  where
    by : (z : ℤ) → Spells text z → follows is_ascii_digit text ≡ true
    by (pos n) s = subst (λ t. follows is_ascii_digit t ≡ true) (sym s.4.spelled) (numeral_starts s.0 _ s.4.digits.0 s.4.digits.1)
    by (negsuc n) s = absurd s

number_reads : (keeps : Bool) (text rest : List ℕ) (z : ℤ) → number_read text ≡ Some z → ends_number text rest ≡ true → step_at keeps (text ++ rest) ≡ step.Taken (length text) (kind.Number z)
unfolding number_at
number_reads keeps text rest z e h = by text (number_starts text z e) (number_complete text rest z e h) e
  where
    by : (text : List ℕ) → follows is_ascii_digit text ≡ true → number_len (text ++ rest) ≡ length text → number_read text ≡ Some z → step_at keeps (text ++ rest) ≡ step.Taken (length text) (kind.Number z)
    by [] f len e = absurd cc
    by (b ∷ bs) f len e =
        number_goes keeps b (bs ++ rest) f
        ∙ (ap (λ t. number_step (number_len ((b ∷ bs) ++ rest)) (number_read t)) (take_front (b ∷ bs) rest (number_len ((b ∷ bs) ++ rest)) (sym len))
        ∙ (ap (number_step (number_len ((b ∷ bs) ++ rest))) e ∙ ap (λ n. step.Taken n (kind.Number z)) len))

-- a text that begins with a mark is what the mark begins
mark_reads : (keeps : Bool) (m : Mark) (bs : List ℕ) → IsLongest m bs → step_at keeps bs ≡ mark_step bs (Some m)
unfolding mark_at
mark_reads keeps m bs h =
    let front = begins_front m bs h.stands in
    ap (step_at keeps) front ∙ (mark_first keeps m (drop (length (mark_spelling m)) bs) ∙ (ap mark_at (sym front) ∙ ap (mark_step bs) (mark_complete bs m h)))

line_reads : (keeps : Bool) (m : Mark) (text rest : List ℕ) → begins_line m ≡ true → IsLongest m (text ++ rest) → list_all is_inner text ≡ true → follows is_inner rest ≡ false → step_at keeps (text ++ rest) ≡ step.Passed (length text)
line_reads keeps (mark.Sign s) text rest b l h f = absurd cc
line_reads keeps mark.Hash text rest b l h f = mark_reads keeps mark.Hash (text ++ rest) l ∙ ap step.Passed (run_whole is_inner text rest h f)
line_reads keeps mark.DoubleSlash text rest b l h f = mark_reads keeps mark.DoubleSlash (text ++ rest) l ∙ ap step.Passed (run_whole is_inner text rest h f)
line_reads keeps mark.BlockComment text rest b l h f = absurd cc
line_reads keeps mark.Quote text rest b l h f = absurd cc
line_reads keeps mark.LongString text rest b l h f = absurd cc

comment_mark : (xs : List ℕ) → mark_of (codes "/*" ++ xs) ≡ Some mark.BlockComment
unfolding mark_of
comment_mark xs = refl

long_mark : (xs : List ℕ) → mark_of (codes "{{{" ++ xs) ≡ Some mark.LongString
unfolding mark_of
long_mark xs = refl

quote_mark : (xs : List ℕ) → mark_of (34 ∷ xs) ≡ Some mark.Quote
unfolding mark_of
quote_mark xs = refl

comment_goes : (keeps : Bool) (xs : List ℕ) → step_at keeps (codes "/*" ++ xs) ≡ comment_step (find_end (codes "*/") xs)
unfolding mark_at
comment_goes keeps xs = mark_first keeps mark.BlockComment xs ∙ ap (mark_step (codes "/*" ++ xs)) (comment_mark xs)

pub long_goes : (keeps : Bool) (xs : List ℕ) → step_at keeps (codes "{{{" ++ xs) ≡ long_step xs (find_end (codes "}}}") xs)
unfolding mark_at
long_goes keeps xs = mark_first keeps mark.LongString xs ∙ ap (mark_step (codes "{{{" ++ xs)) (long_mark xs)

pub quote_goes : (keeps : Bool) (xs : List ℕ) → step_at keeps (34 ∷ xs) ≡ string_step (body_of xs)
unfolding mark_at
quote_goes keeps xs = mark_first keeps mark.Quote xs ∙ ap (mark_step (34 ∷ xs)) (quote_mark xs)

pub gap_reads : (keeps : Bool) (gap : Gap) (text rest : List ℕ) → IsGap keeps gap text rest → step_at keeps (text ++ rest) ≡ step.Passed (length text)
gap_reads keeps (blank b) text rest h = subst (λ t. step_at keeps (t ++ rest) ≡ step.Passed (length t)) (sym h.1) (blank_reads keeps b rest h.0)
gap_reads keeps newline text rest h = subst (λ t. step_at keeps (t ++ rest) ≡ step.Passed (length t)) (sym h.1) (newline_reads keeps rest ∙ ap newline_step h.0)
gap_reads keeps (line_comment m) text rest h = line_reads keeps m text rest h.0 h.1 h.2 h.4
gap_reads keeps (block_comment body) text rest h =
    let found : find_end (codes "*/") (h.0 ++ rest) ≡ Some (length body) = end_complete 42 (47 ∷ []) body h.0 rest h.2 in
    let size : 4 + length body ≡ length text = omega (arith, ap length h.1, ap length h.2.whole, length-append body (codes "*/")) in
    ap (λ t. step_at keeps (t ++ rest)) h.1 ∙ (comment_goes keeps (h.0 ++ rest) ∙ (ap comment_step found ∙ ap step.Passed size))

text_reads : (n : ℕ) (value : List ℕ) → IsUtf8 value → text_step n value ≡ step.Taken n (kind.Str value)
text_reads n value u = ap (λ t. cond t (step.Taken n (kind.Str value)) step.Fault) (is_utf8-from_IsUtf8 value u)

string_reads : (keeps : Bool) (quoting : Quoting) (text rest value : List ℕ) → IsString quoting text value → IsUtf8 value → step_at keeps (text ++ rest) ≡ step.Taken (length text) (kind.Str value)
string_reads keeps quotes text rest value h u =
    let size : 1 + length h.0 ≡ length text = omega (arith, ap length h.1) in
    ap (λ t. step_at keeps (t ++ rest)) h.1 ∙ (quote_goes keeps (h.0 ++ rest)
    ∙ (ap string_step (body_complete value h.0 rest (length (h.0 ++ rest)) (omega (arith, length-append h.0 rest)) h.2)
    ∙ (text_reads (1 + length h.0) value u ∙ ap (λ n. step.Taken n (kind.Str value)) size)))
string_reads keeps braces text rest value h u =
    let found : find_end (codes "}}}") (h.0 ++ rest) ≡ Some (length value) = end_complete 125 (125 ∷ 125 ∷ []) value h.0 rest h.2 in
    let front : take (length value) (h.0 ++ rest) ≡ value =
    ap (λ t. take (length value) (t ++ rest)) h.2.whole ∙ (ap (take (length value)) (append_assoc value (codes "}}}") rest) ∙ take_front value (codes "}}}" ++ rest) (length value) refl) in
    let size : 6 + length value ≡ length text = omega (arith, ap length h.1, ap length h.2.whole, length-append value (codes "}}}")) in
    ap (λ t. step_at keeps (t ++ rest)) h.1 ∙ (long_goes keeps (h.0 ++ rest)
    ∙ (ap (long_step (h.0 ++ rest)) found ∙ (ap (text_step (6 + length value)) front
    ∙ (text_reads (6 + length value) value u ∙ ap (λ n. step.Taken n (kind.Str value)) size))))

pub token_reads : (keeps : Bool) (k : TokenKind) (text rest : List ℕ) → IsToken keeps k text rest → step_at keeps (text ++ rest) ≡ step.Taken (length text) k
token_reads keeps (kind.Word w) text rest h =
    subst (λ t. step_at keeps (t ++ rest) ≡ step.Taken (length t) (kind.Word w)) (sym h.0)
    (name_reads keeps (word_spelling w) rest (word_is_name w) h.1 ∙ ap (λ o. step.Taken (length (word_spelling w)) (name_kind o (word_spelling w))) (word_found w))
token_reads keeps (kind.Ident name) text rest h =
    subst (λ t. step_at keeps (t ++ rest) ≡ step.Taken (length t) (kind.Ident name)) (sym h.0)
    (name_reads keeps name rest h.1 h.3 ∙ ap (λ o. step.Taken (length name) (name_kind o name)) (none_word name h.2))
token_reads keeps (kind.Number z) text rest h = number_reads keeps text rest z h.0 h.1
token_reads keeps (kind.Str value) text rest h = string_reads keeps h.0 text rest value h.1 h.2
token_reads keeps (kind.Sign s) text rest h =
    mark_reads keeps (mark.Sign s) (text ++ rest) h.1 ∙ ap (λ t. step.Taken (length t) (kind.Sign s)) (sym h.0)
token_reads keeps kind.NewLine text rest h = subst (λ t. step_at keeps (t ++ rest) ≡ step.Taken (length t) kind.NewLine) (sym h.1) (newline_reads keeps rest ∙ ap newline_step h.0)
token_reads keeps kind.End text rest h = absurd h
