-- A newline behind a printed text adds no token.
use Rattle.std.proofs.Common.{◌≡◌, ℕ, Bool, true, false, cond, ◌&&◌, List, [], ◌∷◌, ◌++◌, refl, sym, ap, ap₂, ◌∙◌, append_assoc, append-nil}
use Rattle.json.specs.Token.{Token, begin_object, end_object, begin_array, end_array, key, string, number, boolean, null, bad}
use Rattle.json.specs.Word.{ends_word, word}
use Rattle.json.specs.Lex.{Lexeme, token, comma, colon, string_token, lex, between, fresh, punctuate, tokens}
use Rattle.json.specs.Print.{escape, quoted, token_text, begins, ends, print_from, print, IsPrintable, ArePrintable}
use Rattle.json.proofs.Printed.Strings.{content-escape, lex-escape}
use Rattle.json.proofs.Printed.Numbers.{lex-number, in_word-ended}
use Rattle.json.proofs.Printed.Tokens.{tokens-print}

abbrev lexemes_of : Token → List Lexeme
lexemes_of begin_object = token begin_object ∷ []
lexemes_of end_object = token end_object ∷ []
lexemes_of begin_array = token begin_array ∷ []
lexemes_of end_array = token end_array ∷ []
lexemes_of (key s) = token (string s) ∷ colon ∷ []
lexemes_of (string s) = token (string s) ∷ []
lexemes_of (number s) = token (number s) ∷ []
lexemes_of (boolean b) = token (boolean b) ∷ []
lexemes_of null = token null ∷ []
lexemes_of bad = []

abbrev lexemes : Bool → List Token → List Lexeme
lexemes c [] = []
lexemes c (t ∷ ts) = cond (c && begins t) (comma ∷ []) [] ++ (lexemes_of t ++ lexemes (ends t) ts)

ends_there : (ts : List Token) (tail : List ℕ) → ends_word tail ≡ true → ends_word (print_from true ts ++ tail) ≡ true
unfolding print_from
ends_there [] tail h = h
ends_there (begin_object ∷ ts) tail h = refl
ends_there (end_object ∷ ts) tail h = refl
ends_there (begin_array ∷ ts) tail h = refl
ends_there (end_array ∷ ts) tail h = refl
ends_there (key s ∷ ts) tail h = refl
ends_there (string s ∷ ts) tail h = refl
ends_there (number s ∷ ts) tail h = refl
ends_there (boolean b ∷ ts) tail h = refl
ends_there (null ∷ ts) tail h = refl
ends_there (bad ∷ ts) tail h = refl

lex_quoted : (s r : List ℕ) → lex between (quoted s ++ r) ≡ token (string s) ∷ lex between r
unfolding lex
lex_quoted s r =
    let e = append_assoc (escape s) (34 ∷ []) r in
    ap (λ l. lex between (34 ∷ l)) e ∙ ap₂ (λ o l. token (string_token o) ∷ l) (content-escape s r) (lex-escape s r)

lex_token : (t : Token) (r : List ℕ) → IsPrintable t → (ends t ≡ true → ends_word r ≡ true) → lex between (token_text t ++ r) ≡ lexemes_of t ++ lex between r
unfolding lex word
lex_token begin_object r h ended = refl
lex_token end_object r h ended = refl
lex_token begin_array r h ended = refl
lex_token end_array r h ended = refl
lex_token (key s) r h ended = ap (lex between) (append_assoc (quoted s) (58 ∷ []) r) ∙ lex_quoted s (58 ∷ r)
lex_token (string s) r h ended = lex_quoted s r
lex_token (number s) r h ended = lex-number s r h (ended refl)
lex_token (boolean true) r h ended = ap₂ (λ b l. token (cond b (boolean true) bad) ∷ l) (ended refl) (in_word-ended r (ended refl))
lex_token (boolean false) r h ended = ap₂ (λ b l. token (cond b (boolean false) bad) ∷ l) (ended refl) (in_word-ended r (ended refl))
lex_token null r h ended = ap₂ (λ b l. token (cond b null bad) ∷ l) (ended refl) (in_word-ended r (ended refl))
lex_token bad r h ended = absurd h

lex_comma : (b : Bool) (r : List ℕ) → lex between (cond b (44 ∷ []) [] ++ r) ≡ cond b (comma ∷ []) [] ++ lex between r
unfolding lex
lex_comma true r = refl
lex_comma false r = refl

grouped : (a b c d : List ℕ) → (a ++ (b ++ c)) ++ d ≡ a ++ (b ++ (c ++ d))
grouped a b c d = append_assoc a (b ++ c) d ∙ ap (λ l. a ++ l) (append_assoc b c d)

grouped_lexemes : (a b c d : List Lexeme) → a ++ (b ++ (c ++ d)) ≡ (a ++ (b ++ c)) ++ d
grouped_lexemes a b c d = sym (append_assoc a (b ++ c) d ∙ ap (λ l. a ++ l) (append_assoc b c d))

lex_printed : (c : Bool) (ts : List Token) (tail : List ℕ) → ends_word tail ≡ true → ArePrintable ts → lex between (print_from c ts ++ tail) ≡ lexemes c ts ++ lex between tail
unfolding print_from ArePrintable
lex_printed c [] tail t h = refl
lex_printed c (t ∷ ts) tail w h =
    let comma_text : List ℕ = cond (c && begins t) (44 ∷ []) [] in
    let comma_lexeme : List Lexeme = cond (c && begins t) (comma ∷ []) [] in
    ap (lex between) (grouped comma_text (token_text t) (print_from (ends t) ts) tail)
    ∙ lex_comma (c && begins t) _
    ∙ ap (λ l. comma_lexeme ++ l)
    (lex_token t (print_from (ends t) ts ++ tail) h.0 (λ e. ap (λ b. ends_word (print_from b ts ++ tail)) e ∙ ends_there ts tail w)
    ∙ ap (λ l. lexemes_of t ++ l) (lex_printed (ends t) ts tail w h.1))
    ∙ grouped_lexemes comma_lexeme (lexemes_of t) (lexemes (ends t) ts) (lex between tail)

no_lexeme : lex between (10 ∷ []) ≡ []
unfolding lex
no_lexeme = refl

nothing : lex between [] ≡ []
unfolding lex
nothing = refl

pub tokens_before_newline : (ts : List Token) → ArePrintable ts → tokens (print ts ++ 10 ∷ []) ≡ ts
tokens_before_newline ts h =
    let with_newline : lex between (print ts ++ 10 ∷ []) ≡ lexemes false ts = lex_printed false ts (10 ∷ []) refl h ∙ ap (λ l. lexemes false ts ++ l) no_lexeme ∙ append-nil (lexemes false ts) in
    let without : lex between (print ts) ≡ lexemes false ts =
    ap (lex between) (sym (append-nil (print ts))) ∙ lex_printed false ts [] refl h ∙ ap (λ l. lexemes false ts ++ l) nothing ∙ append-nil (lexemes false ts) in
    ap (punctuate fresh) (with_newline ∙ sym without) ∙ tokens-print ts h
