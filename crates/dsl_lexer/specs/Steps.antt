-- What a text begins with, read byte by byte.
use Rattle.std.specs.Prelude.{ℕ, ℤ, suc, ◌+◌, List, [], ◌∷◌, ◌==◌, Bool, take, drop, length, codes, Option, Some, None, if◌then◌else◌}
use Rattle.std.specs.List.{prefix_len}
use Rattle.std.specs.Char.{is_ascii_digit}
use Rattle.std.specs.Str.{bytes_eq, is_utf8}
use Rattle.site_base.specs.Reading.{number_read}
use Rattle.dsl_lexer.specs.Letters.{is_blank, is_name_start, is_name_byte, is_inner}
use Rattle.dsl_lexer.specs.Words.{word_of}
use Rattle.dsl_lexer.specs.Marks.{mark_spelling, mark_of}
use Rattle.dsl_lexer.specs.Strings.{Body, closed, broken, body_of}
use Rattle.dsl_lexer.specs.declared.word.Word.{Word}
use Rattle.dsl_lexer.specs.declared.mark.Mark.{Mark}
use Rattle.dsl_lexer.specs.declared.mark.Mark.TheVariants as mark
use Rattle.dsl_lexer.specs.declared.token_kind.TokenKind.{TokenKind}
use Rattle.dsl_lexer.specs.declared.token_kind.TokenKind.TheVariants as kind
use Rattle.dsl_lexer.specs.declared.stepping.Step.{Step}
use Rattle.dsl_lexer.specs.declared.stepping.Step.TheVariants as step

abbrev pub name_kind : Option Word → List ℕ → TokenKind
name_kind None text = kind.Ident text
name_kind (Some w) text = kind.Word w

-- a word or an identifier
unfoldable pub name_at : List ℕ → Step
name_at bytes = let n = prefix_len is_name_byte bytes in step.Taken n (name_kind (word_of (take n bytes)) (take n bytes))

-- how many bytes a point takes with so many digits behind it: none without digits
abbrev pub pointed_len : ℕ → ℕ
pointed_len digits = if digits == 0 then 0 else 1 + digits

abbrev pub fraction_len : List ℕ → ℕ
fraction_len [] = 0
fraction_len (b ∷ bs) = if b == 46 then pointed_len (prefix_len is_ascii_digit bs) else 0

-- how many bytes a number takes: digits, a point with digits, and all letters, digits and `_` behind
abbrev pub number_len : List ℕ → ℕ
number_len bytes =
    let whole = prefix_len is_ascii_digit bytes in
    let behind = whole + fraction_len (drop whole bytes) in
    behind + prefix_len is_name_byte (drop behind bytes)

abbrev pub number_step : ℕ → Option ℤ → Step
number_step n None = step.Fault
number_step n (Some z) = step.Taken n (kind.Number z)

unfoldable pub number_at : List ℕ → Step
number_at bytes = number_step (number_len bytes) (number_read (take (number_len bytes) bytes))

-- a string of so many bytes
abbrev pub text_step : ℕ → List ℕ → Step
text_step n text = if is_utf8 text then step.Taken n (kind.Str text) else step.Fault

abbrev pub string_step : Body → Step
string_step (closed text n) = text_step (1 + n) text
string_step broken = step.Fault

-- how many bytes stand before the first of these ends
abbrev pub one_more : Option ℕ → Option ℕ
one_more None = None
one_more (Some n) = Some (suc n)

abbrev pub find_end : List ℕ → List ℕ → Option ℕ
find_end end [] = None
find_end end (b ∷ bs) = if bytes_eq end (take (length end) (b ∷ bs)) then Some 0 else one_more (find_end end bs)

abbrev pub comment_step : Option ℕ → Step
comment_step None = step.Fault
comment_step (Some n) = step.Passed (4 + n)

abbrev pub long_step : List ℕ → Option ℕ → Step
long_step bytes None = step.Fault
long_step bytes (Some n) = text_step (6 + n) (take n bytes)

-- what a mark begins
abbrev pub mark_step : List ℕ → Option Mark → Step
mark_step bytes None = step.Fault
mark_step bytes (Some (mark.Sign s)) = step.Taken (length (mark_spelling (mark.Sign s))) (kind.Sign s)
mark_step bytes (Some mark.Hash) = step.Passed (prefix_len is_inner bytes)
mark_step bytes (Some mark.DoubleSlash) = step.Passed (prefix_len is_inner bytes)
mark_step bytes (Some mark.BlockComment) = comment_step (find_end (codes "*/") (drop 2 bytes))
mark_step bytes (Some mark.LongString) = long_step (drop 3 bytes) (find_end (codes "}}}") (drop 3 bytes))
mark_step bytes (Some mark.Quote) = string_step (body_of (drop 1 bytes))

unfoldable pub mark_at : List ℕ → Step
mark_at bytes = mark_step bytes (mark_of bytes)

abbrev pub newline_step : Bool → Step
newline_step keeps = if keeps then step.Taken 1 kind.NewLine else step.Passed 1

-- what a text begins with, where newlines are tokens or are passed over
unfoldable pub step_at : Bool → List ℕ → Step
step_at keeps [] = step.Fault
step_at keeps (b ∷ bs) =
    if is_blank b then step.Passed 1
    else if b == 10 then newline_step keeps
    else if is_name_start b then name_at (b ∷ bs)
    else if is_ascii_digit b then number_at (b ∷ bs)
    else mark_at (b ∷ bs)
