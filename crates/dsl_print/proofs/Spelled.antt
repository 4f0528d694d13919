-- The tokens of a print: words, signs, names, strings and newlines.
use Rattle.std.proofs.Common.{◌≡◌, ℕ, ◌-◌, List, [], ◌∷◌, ◌++◌, length, take, true, false, Some, refl, ap, ◌∙◌, arith}
use Rattle.std.specs.Prelude.{slice_get}
use Rattle.std.proofs.lemmas.List.{length-append}
use Rattle.std.proofs.Math.Seq.{take-append_seam}
use Rattle.std.specs.Str.{IsUtf8}
use Rattle.std.specs.List.{list_all}
use Rattle.site_base.specs.Quoted.{quoted}
use Rattle.site_base.specs.declared.place.Place.{Place}
use Rattle.dsl_lexer.specs.Brackets.{keeps, opened_by, keeps_inside}
use Rattle.dsl_lexer.specs.Letters.{goes_on}
use Rattle.dsl_lexer.specs.Signs.{sign_spelling}
use Rattle.dsl_lexer.specs.Words.{word_spelling}
use Rattle.dsl_lexer.specs.Tokens.{begins_fraction, quotes, IsToken}
use Rattle.dsl_lexer.specs.declared.sign.Sign.{Sign}
use Rattle.dsl_lexer.specs.declared.sign.Sign.TheVariants as signs
use Rattle.dsl_lexer.specs.declared.word.Word.{Word}
use Rattle.dsl_lexer.specs.declared.token_kind.TokenKind.TheVariants as kinds
use Rattle.dsl_lexer.proofs.WordLaws.{word_is_name}
use Rattle.dsl_rules.specs.Alphabet.{Sort, among}
use Rattle.dsl_rules.specs.Grammar.{one}
use Rattle.dsl_grammar.specs.Codes.{word_sort, sign_sort, ident_sort, string_sort, line_sort}
use Rattle.dsl_grammar.specs.Terms.{word, sign, IDENT, STRING}
use Rattle.dsl_print.proofs.Good.{IsIdent}
use Rattle.dsl_print.proofs.Strings.{quoted_string, quoted_utf8}
use Rattle.dsl_print.proofs.SignTokens.{open_paren_token, close_paren_token, open_bracket_token, close_bracket_token, brace_line_token, brace_blank_token, close_brace_token, comma_token, dot_token, set_token, arrow_token}
use Rattle.dsl_print.proofs.Printed.{self_among, one_of, Prints, prints_one, prints_brackets}
use Rattle.std.specs.Char.{is_ascii}
use Rattle.dsl_print.proofs.Ascii.{ascii_utf8, names_utf8}

-- any place
abbrev pub Any : Place → Type 0
Any p = Unit {0}

-- what may follow an expression: nothing that would make its last token longer
abbrev pub IsEnd : List ℕ → Type 0
IsEnd rest = (goes_on rest ≡ false) × (begins_fraction rest ≡ false)

pub prints_word : {b : List Sign} (w : Word) (rest : List ℕ) → goes_on rest ≡ false → Prints b b (word w) Any (one_of (word_sort w ∷ [])) (word_spelling w) rest
prints_word w rest e = prints_one (kinds.Word w) (word_spelling w) rest (refl, e) (self_among (word_sort w)) (λ p. tt) (names_utf8 (word_spelling w) (word_is_name w))

pub prints_sign : {b : List Sign} (s : Sign) (rest : List ℕ) → list_all is_ascii (sign_spelling s) ≡ true → IsToken (keeps b) (kinds.Sign s) (sign_spelling s) rest → Prints b (opened_by s b) (sign s) Any (one_of (sign_sort s ∷ [])) (sign_spelling s) rest
prints_sign s rest u t = prints_one (kinds.Sign s) (sign_spelling s) rest t (self_among (sign_sort s)) (λ p. tt) (ascii_utf8 (sign_spelling s) u)

pub prints_ident : {b : List Sign} (n rest : List ℕ) → IsIdent n → goes_on rest ≡ false → Prints b b IDENT (λ m. m ≡ n) (one_of (ident_sort ∷ [])) n rest
prints_ident n rest i e = prints_one (kinds.Ident n) n rest (refl, i.0, i.1, e) refl (λ p. refl) (names_utf8 n i.0)

pub prints_string : {b : List Sign} (s rest : List ℕ) → IsUtf8 s → Prints b b STRING (λ m. m ≡ s) (one_of (string_sort ∷ [])) (quoted s) rest
prints_string s rest u = prints_one (kinds.Str s) (quoted s) rest (quotes, quoted_string s, u) refl (λ p. refl) (quoted_utf8 s u)

pub prints_newline : {b : List Sign} (cs : List Sort) (rest : List ℕ) → keeps b ≡ true → among line_sort cs ≡ true → Prints b b (one cs (λ t. t.place)) Any (one_of (line_sort ∷ [])) (10 ∷ []) rest
prints_newline cs rest k m = prints_one kinds.NewLine (10 ∷ []) rest (k, refl) m (λ p. tt) (ascii_utf8 (10 ∷ []) refl)

-- Brackets.

size_less : (b : List Sign) (x : Sign) → length (b ++ x ∷ []) - 1 ≡ length b
size_less b x = omega (arith, length-append b (x ∷ []))

closed : (b : List Sign) (x : Sign) → take (length (b ++ x ∷ []) - 1) (b ++ x ∷ []) ≡ b
closed b x = ap (λ n. take n (b ++ x ∷ [])) (size_less b x) ∙ take-append_seam b (x ∷ [])

last_is : (b : List Sign) (x : Sign) → slice_get (b ++ x ∷ []) (length b) ≡ Some x
last_is [] x = refl
last_is (y ∷ b) x = last_is b x

-- newlines are tokens inside braces
pub keeps_brace : (b : List Sign) → keeps (b ++ signs.OpenBrace ∷ []) ≡ true
keeps_brace b = ap keeps_inside (ap (slice_get (b ++ signs.OpenBrace ∷ [])) (size_less b signs.OpenBrace) ∙ last_is b signs.OpenBrace)

pub prints_open_paren : {b : List Sign} (rest : List ℕ) → Prints b (b ++ signs.OpenParen ∷ []) (sign signs.OpenParen) Any (one_of (sign_sort signs.OpenParen ∷ [])) (40 ∷ []) rest
prints_open_paren {b = b} rest = prints_sign signs.OpenParen rest refl (open_paren_token (keeps b) rest)

pub prints_close_paren : {b : List Sign} (rest : List ℕ) → Prints (b ++ signs.OpenParen ∷ []) b (sign signs.CloseParen) Any (one_of (sign_sort signs.CloseParen ∷ [])) (41 ∷ []) rest
prints_close_paren {b = b} rest = prints_brackets (41 ∷ []) rest (closed b signs.OpenParen) (prints_sign signs.CloseParen rest refl (close_paren_token (keeps (b ++ signs.OpenParen ∷ [])) rest))

pub prints_open_bracket : {b : List Sign} (rest : List ℕ) → Prints b (b ++ signs.OpenBracket ∷ []) (sign signs.OpenBracket) Any (one_of (sign_sort signs.OpenBracket ∷ [])) (91 ∷ []) rest
prints_open_bracket {b = b} rest = prints_sign signs.OpenBracket rest refl (open_bracket_token (keeps b) rest)

pub prints_close_bracket : {b : List Sign} (rest : List ℕ) → Prints (b ++ signs.OpenBracket ∷ []) b (sign signs.CloseBracket) Any (one_of (sign_sort signs.CloseBracket ∷ [])) (93 ∷ []) rest
prints_close_bracket {b = b} rest = prints_brackets (93 ∷ []) rest (closed b signs.OpenBracket) (prints_sign signs.CloseBracket rest refl (close_bracket_token (keeps (b ++ signs.OpenBracket ∷ [])) rest))

pub prints_brace_line : {b : List Sign} (rest : List ℕ) → Prints b (b ++ signs.OpenBrace ∷ []) (sign signs.OpenBrace) Any (one_of (sign_sort signs.OpenBrace ∷ [])) (123 ∷ []) (10 ∷ rest)
prints_brace_line {b = b} rest = prints_sign signs.OpenBrace (10 ∷ rest) refl (brace_line_token (keeps b) rest)

pub prints_brace_blank : {b : List Sign} (rest : List ℕ) → Prints b (b ++ signs.OpenBrace ∷ []) (sign signs.OpenBrace) Any (one_of (sign_sort signs.OpenBrace ∷ [])) (123 ∷ []) (32 ∷ rest)
prints_brace_blank {b = b} rest = prints_sign signs.OpenBrace (32 ∷ rest) refl (brace_blank_token (keeps b) rest)

pub prints_close_brace : {b : List Sign} (rest : List ℕ) → Prints (b ++ signs.OpenBrace ∷ []) b (sign signs.CloseBrace) Any (one_of (sign_sort signs.CloseBrace ∷ [])) (125 ∷ []) rest
prints_close_brace {b = b} rest = prints_brackets (125 ∷ []) rest (closed b signs.OpenBrace) (prints_sign signs.CloseBrace rest refl (close_brace_token (keeps (b ++ signs.OpenBrace ∷ [])) rest))

-- Other signs.

pub prints_comma : {b : List Sign} (rest : List ℕ) → Prints b b (sign signs.Comma) Any (one_of (sign_sort signs.Comma ∷ [])) (44 ∷ []) rest
prints_comma {b = b} rest = prints_sign signs.Comma rest refl (comma_token (keeps b) rest)

pub prints_dot : {b : List Sign} (rest : List ℕ) → Prints b b (sign signs.Dot) Any (one_of (sign_sort signs.Dot ∷ [])) (46 ∷ []) rest
prints_dot {b = b} rest = prints_sign signs.Dot rest refl (dot_token (keeps b) rest)

pub prints_set : {b : List Sign} (rest : List ℕ) → Prints b b (sign signs.Set) Any (one_of (sign_sort signs.Set ∷ [])) (61 ∷ []) (32 ∷ rest)
prints_set {b = b} rest = prints_sign signs.Set (32 ∷ rest) refl (set_token (keeps b) rest)

pub prints_arrow : {b : List Sign} (rest : List ℕ) → Prints b b (sign signs.Arrow) Any (one_of (sign_sort signs.Arrow ∷ [])) (61 ∷ 62 ∷ []) (32 ∷ rest)
prints_arrow {b = b} rest = prints_sign signs.Arrow (32 ∷ rest) refl (arrow_token (keeps b) rest)
