-- Every token is UTF-8, and in a text that is so is what stands between tokens.
use Rattle.std.proofs.Common.{◌≡◌, ℕ, ◌<◌, List, [], ◌∷◌, ◌++◌, take, Bool, true, false, codes, Some, refl, sym, ap, ◌∙◌, subst, append_assoc, append-nil, arith}
use Rattle.std.proofs.lemmas.Bool.{false≢true}
use Rattle.std.proofs.lemmas.Bool.Decides.{nat_tests}
use Rattle.std.proofs.lemmas.Str.{IsUtf8-append, IsUtf8-from_ascii, is_utf8-from_IsUtf8}
use Rattle.std.proofs.lemmas.Str.Ascii.{IsAscii-nil, IsAscii-cons}
use Rattle.std.specs.Char.{is_ascii}
use Rattle.std.specs.List.{list_all}
use Rattle.std.specs.Str.{IsUtf8, is_utf8, IsAscii}
use Rattle.dsl_lexer.specs.declared.sign.Sign.{Sign}
use Rattle.dsl_lexer.specs.declared.sign.Sign.TheVariants as sign
use Rattle.dsl_lexer.specs.declared.token_kind.TokenKind.{TokenKind}
use Rattle.dsl_lexer.specs.declared.token_kind.TokenKind.TheVariants as kind
use Rattle.dsl_lexer.specs.declared.stepping.Step.TheVariants as step
use Rattle.dsl_lexer.specs.Letters.{is_blank, is_name_byte, is_inner, follows, is_octal, escape_value}
use Rattle.dsl_lexer.specs.Signs.{sign_spelling}
use Rattle.dsl_lexer.specs.Words.{word_spelling}
use Rattle.dsl_lexer.specs.Steps.{number_len, step_at}
use Rattle.dsl_lexer.specs.Tokens.{Gap, blank, newline, line_comment, block_comment, IsGap, IsToken, is_name, IsOctal, Way, plain, escape, octal, IsWritten, IsInside, Quoting, quotes, braces, IsString}
use Rattle.dsl_lexer.proofs.Bytes.{take_front}
use Rattle.dsl_lexer.proofs.NumberLaws.{number_complete}
use Rattle.dsl_lexer.proofs.StepLaws.{Tells, GapFront, TokenFront, step_tells}
use Rattle.dsl_lexer.proofs.StepReads.{name_bytes}
use Rattle.dsl_lexer.proofs.Texts.{name_ascii, number_ascii}
use Rattle.dsl_lexer.proofs.Utf8Laws.{Alike, ascii_cut, byte_utf8, bytes_ascii}
use Rattle.dsl_lexer.proofs.WordLaws.{word_is_name}

name_utf8 : (name : List ℕ) → is_name name ≡ true → IsUtf8 name
name_utf8 name h = IsUtf8-from_ascii name (bytes_ascii is_name_byte name_ascii name (name_bytes name h))

ascii_small : (b : ℕ) → is_ascii b ≡ true → b < 128
ascii_small b e = grind (arith, nat_tests)

sign_ascii : (s : Sign) → list_all is_ascii (sign_spelling s) ≡ true
sign_ascii sign.NotIn = refl
sign_ascii sign.AddSet = refl
sign_ascii sign.SubtractSet = refl
sign_ascii sign.MultiplySet = refl
sign_ascii sign.DivideSet = refl
sign_ascii sign.Arrow = refl
sign_ascii sign.Equal = refl
sign_ascii sign.NotEqual = refl
sign_ascii sign.AtMost = refl
sign_ascii sign.AtLeast = refl
sign_ascii sign.ShiftLeft = refl
sign_ascii sign.ShiftRight = refl
sign_ascii sign.And = refl
sign_ascii sign.Or = refl
sign_ascii sign.OpenParen = refl
sign_ascii sign.CloseParen = refl
sign_ascii sign.OpenBracket = refl
sign_ascii sign.CloseBracket = refl
sign_ascii sign.OpenBrace = refl
sign_ascii sign.CloseBrace = refl
sign_ascii sign.Dot = refl
sign_ascii sign.Comma = refl
sign_ascii sign.Semicolon = refl
sign_ascii sign.Set = refl
sign_ascii sign.Plus = refl
sign_ascii sign.Minus = refl
sign_ascii sign.Star = refl
sign_ascii sign.Slash = refl
sign_ascii sign.Percent = refl
sign_ascii sign.Not = refl
sign_ascii sign.Tilde = refl
sign_ascii sign.Less = refl
sign_ascii sign.Greater = refl
sign_ascii sign.BitAnd = refl
sign_ascii sign.BitXor = refl
sign_ascii sign.BitOr = refl

sign_utf8 : (s : Sign) → IsUtf8 (sign_spelling s)
sign_utf8 s = IsUtf8-from_ascii (sign_spelling s) (bytes_ascii is_ascii ascii_small (sign_spelling s) (sign_ascii s))

-- escapes are ASCII, and stand for ASCII
octal_small : (d : ℕ) → is_octal d ≡ true → d < 56
octal_small d e = grind (arith, nat_tests)

escape_small : (e b : ℕ) → escape_value e ≡ Some b → e < 128
escape_small e b h = grind (arith, nat_tests)

escape_stands : (e b : ℕ) → escape_value e ≡ Some b → b < 128
escape_stands e b h = grind (arith, nat_tests)

octal_ascii : (digits rest : List ℕ) (b : ℕ) → IsOctal digits rest b → IsAscii digits × (b < 128)
octal_ascii [] rest b h = absurd h
octal_ascii (x ∷ []) rest b h =
    let small = octal_small x h.0 in
    (IsAscii-cons x [] (omega (arith, small)) IsAscii-nil, omega (arith, small, h.1))
octal_ascii (x ∷ y ∷ []) rest b h =
    let small = octal_small x h.0 in
    let next = octal_small y h.1 in
    (IsAscii-cons x (y ∷ []) (omega (arith, small)) (IsAscii-cons y [] (omega (arith, next)) IsAscii-nil), omega (arith, small, next, h.2))
octal_ascii (x ∷ y ∷ z ∷ []) rest b h =
    (IsAscii-cons x (y ∷ z ∷ []) (omega (arith, octal_small x h.0)) (IsAscii-cons y (z ∷ []) (omega (arith, octal_small y h.1)) (IsAscii-cons z [] (omega (arith, octal_small z h.2)) IsAscii-nil)), h.4)
octal_ascii (x ∷ y ∷ z ∷ w ∷ more) rest b h = absurd h

-- behind a front: an escape, where what follows it is UTF-8 as what it stands for is
behind_escape : (front written text rest bs : List ℕ) (b : ℕ) → text ≡ written ++ rest → IsAscii written → b < 128 → (IsUtf8 bs → IsUtf8 rest) → IsUtf8 (front ++ b ∷ bs) → IsUtf8 (front ++ text)
behind_escape front written text rest bs b whole ascii small more u =
    let cut = ascii_cut front bs b small u in
    subst (λ t. IsUtf8 (front ++ t)) (sym whole) (IsUtf8-append front (written ++ rest) cut.0 (IsUtf8-append written rest (IsUtf8-from_ascii written ascii) (more cut.1)))

inside_utf8 : (front text value : List ℕ) → IsInside text value → IsUtf8 (front ++ value) → IsUtf8 (front ++ text)
inside_utf8 front text [] h u = subst (λ t. IsUtf8 (front ++ t)) (sym h) (IsUtf8-append front (34 ∷ []) (subst IsUtf8 (append-nil front) u) (byte_utf8 34 (omega arith)))
inside_utf8 front text (b ∷ bs) h u = by (λ f r i v. inside_utf8 f r bs i v) h.0 h.1 h.2 h.3 h.4 h.5
  where
    by : ((f r : List ℕ) → IsInside r bs → IsUtf8 (f ++ bs) → IsUtf8 (f ++ r)) → (way : Way) (written rest : List ℕ) → text ≡ written ++ rest → IsWritten way written rest b → IsInside rest bs → IsUtf8 (front ++ text)
    by more plain written rest whole is inside =
        let one : text ≡ b ∷ rest = whole ∙ ap (λ w. w ++ rest) is.0 in
        subst (λ t. IsUtf8 (front ++ t)) (sym one) (subst IsUtf8 (append_assoc front (b ∷ []) rest) (more (front ++ b ∷ []) rest inside (subst IsUtf8 (sym (append_assoc front (b ∷ []) bs)) u)))
    by more (escape e) written rest whole is inside =
        let ascii = IsAscii-cons 92 (e ∷ []) (omega arith) (IsAscii-cons e [] (escape_small e b is.1) IsAscii-nil) in
        behind_escape front written text rest bs b whole (subst IsAscii (sym is.0) ascii) (escape_stands e b is.1) (more [] rest inside) u
    by more (octal digits) written rest whole is inside =
        let small = octal_ascii digits rest b is.1 in
        behind_escape front written text rest bs b whole (subst IsAscii (sym is.0) (IsAscii-cons 92 digits (omega arith) small.0)) small.1 (more [] rest inside) u

string_utf8 : (quoting : Quoting) (text value : List ℕ) → IsString quoting text value → IsUtf8 value → IsUtf8 text
string_utf8 quotes text value h u = subst IsUtf8 (sym h.1) (IsUtf8-append (34 ∷ []) h.0 (byte_utf8 34 (omega arith)) (inside_utf8 [] h.0 value h.2 u))
string_utf8 braces text value h u =
    let ends : IsUtf8 (codes "}}}") = sign_run 125 (omega arith) in
    let inner : IsUtf8 h.0 = subst IsUtf8 (sym h.2.whole) (IsUtf8-append value (codes "}}}") u ends) in
    subst IsUtf8 (sym h.1) (IsUtf8-append (codes "{{{") h.0 (sign_run 123 (omega arith)) inner)
  where
    sign_run : (b : ℕ) → b < 128 → IsUtf8 (b ∷ b ∷ b ∷ [])
    sign_run b small = IsUtf8-from_ascii (b ∷ b ∷ b ∷ []) (IsAscii-cons b (b ∷ b ∷ []) small (IsAscii-cons b (b ∷ []) small (IsAscii-cons b [] small IsAscii-nil)))

token_utf8 : (keeps : Bool) (k : TokenKind) (text rest : List ℕ) → IsToken keeps k text rest → IsUtf8 text
token_utf8 keeps (kind.Word w) text rest h = subst IsUtf8 (sym h.0) (name_utf8 (word_spelling w) (word_is_name w))
token_utf8 keeps (kind.Ident name) text rest h = subst IsUtf8 (sym h.0) (name_utf8 name h.1)
token_utf8 keeps (kind.Number z) text rest h =
    let front : take (number_len (text ++ rest)) (text ++ rest) ≡ text = take_front text rest (number_len (text ++ rest)) (sym (number_complete text rest z h.0 h.1)) in
    IsUtf8-from_ascii text (subst IsAscii front (number_ascii (text ++ rest)))
token_utf8 keeps (kind.Str value) text rest h = string_utf8 h.0 text value h.1 h.2
token_utf8 keeps (kind.Sign s) text rest h = subst IsUtf8 (sym h.0) (sign_utf8 s)
token_utf8 keeps kind.NewLine text rest h = subst IsUtf8 (sym h.1) (byte_utf8 10 (omega arith))
token_utf8 keeps kind.End text rest h = absurd h

blank_small : (b : ℕ) → is_blank b ≡ true → b < 128
blank_small b e = grind (arith, nat_tests)

line_utf8 : (text rest : List ℕ) → follows is_inner rest ≡ false → IsUtf8 (text ++ rest) → IsUtf8 text
line_utf8 text [] h u = subst IsUtf8 (append-nil text) u
line_utf8 text (b ∷ bs) h u = (ascii_cut text bs b small u).0
  where
    small : b < 128
    small = grind (arith, nat_tests)

gap_utf8 : (keeps : Bool) (gap : Gap) (text rest : List ℕ) → IsGap keeps gap text rest → IsUtf8 (text ++ rest) → IsUtf8 text
gap_utf8 keeps (blank b) text rest h u = subst IsUtf8 (sym h.1) (byte_utf8 b (blank_small b h.0))
gap_utf8 keeps newline text rest h u = subst IsUtf8 (sym h.1) (byte_utf8 10 (omega arith))
gap_utf8 keeps (line_comment m) text rest h u = line_utf8 text rest h.4 u
gap_utf8 keeps (block_comment body) text rest h u =
    let front : List ℕ = codes "/*" ++ (body ++ 42 ∷ []) in
    let whole : text ≡ front ++ 47 ∷ [] = h.1 ∙ ap (λ t. codes "/*" ++ t) (h.2.whole ∙ sym (append_assoc body (42 ∷ []) (47 ∷ []))) in
    let all : text ++ rest ≡ front ++ 47 ∷ rest = ap (λ t. t ++ rest) whole ∙ append_assoc front (47 ∷ []) rest in
    subst IsUtf8 (sym whole) (IsUtf8-append front (47 ∷ []) (ascii_cut front rest 47 (omega arith) (subst IsUtf8 all u)).0 (byte_utf8 47 (omega arith)))

pub taken_utf8 : (keeps : Bool) (bs : List ℕ) (n : ℕ) (k : TokenKind) → step.Taken n k ≡ step_at keeps bs → IsUtf8 (take n bs)
taken_utf8 keeps bs n k e =
    let f : TokenFront keeps k bs n = subst (Tells keeps bs) (sym e) (step_tells keeps bs) in
    subst IsUtf8 (sym (ap (take n) f.whole ∙ take_front f.text f.rest n f.size)) (token_utf8 keeps k f.text f.rest f.is)

passed_utf8 : (keeps : Bool) (bs : List ℕ) (n : ℕ) → step.Passed n ≡ step_at keeps bs → IsUtf8 bs → IsUtf8 (take n bs)
passed_utf8 keeps bs n e u =
    let f : GapFront keeps bs n = subst (Tells keeps bs) (sym e) (step_tells keeps bs) in
    subst IsUtf8 (sym (ap (take n) f.whole ∙ take_front f.text f.rest n f.size)) (gap_utf8 keeps f.gap f.text f.rest f.is (subst IsUtf8 f.whole u))

-- where what is passed over isn't UTF-8 the whole isn't
pub not_text : (keeps : Bool) (bs passed bytes : List ℕ) (n : ℕ) (t : Bool) → step.Passed n ≡ step_at keeps bs → passed ≡ take n bs → t ≡ is_utf8 passed → t ≡ false → Alike bs bytes → IsUtf8 bytes → ⊥
not_text keeps bs passed bytes n t es ep et ef a u = false≢true (sym ef ∙ (et ∙ is_utf8-from_IsUtf8 passed (subst IsUtf8 (sym ep) (passed_utf8 keeps bs n es (a.back u)))))
