-- What holds of every list of tokens.
use Rattle.std.proofs.Common.{◌≡◌, ℕ, ◌+◌, ◌<◌, ◌==◌, List, [], ◌∷◌, length, Bool, true, false, cond, Result, Ok, Err, refl, sym, ◌∙◌, subst, ◌⊎◌, inl, inr, arith}
use Rattle.std.specs.Str.{IsUtf8}
use Rattle.std.specs.Result.{IfOk}
use Rattle.site_base.specs.declared.place.Place.{Place}
use Rattle.dsl_lexer.specs.Brackets.{keeps, opened}
use Rattle.dsl_lexer.specs.Places.{after, place_behind, start_of}
use Rattle.dsl_lexer.specs.declared.sign.Sign.{Sign}
use Rattle.dsl_lexer.specs.declared.token.Token.{Token}
use Rattle.dsl_lexer.specs.declared.token_kind.TokenKind.{TokenKind}
use Rattle.dsl_lexer.specs.declared.token_kind.TokenKind.TheVariants as kind
use Rattle.dsl_lexer.specs.declared.lex_error.LexError.{LexError}
use Rattle.dsl_lexer.specs.declared.lex_error.LexError.TheVariants as error
use Rattle.dsl_lexer.specs.Lexing.{all, lexed, Gives}
use Rattle.dsl_lexer.specs.Tokens.{IsToken, Lexes, ends, passes, takes, token}
use Rattle.dsl_lexer.specs.Lists.{HasTokens, HasFault, GivesTokens, GivesFault, IsFaultOf, is_end, IsBefore, IsWhole}
use Rattle.dsl_lexer.proofs.LexLaws.{lexes_reads, stops_reads, lexed_claims, bad_claims, token_some}

before_trans : (p q r : Place) → IsBefore p q → IsBefore q r → IsBefore p r
before_trans p q r (f, inl a) (g, inl b) = (f ∙ g, inl (omega arith))
before_trans p q r (f, inl a) (g, inr b) = (f ∙ g, inl (omega (arith, b.0)))
before_trans p q r (f, inr a) (g, inl b) = (f ∙ g, inl (omega (arith, a.0)))
before_trans p q r (f, inr a) (g, inr b) = (f ∙ g, inr (a.0 ∙ b.0, omega (arith, a.1, b.1)))

before_after : (b : ℕ) (p : Place) → IsBefore p (after b p)
before_after b p = by (b == 10)
  where
    by : (t : Bool) → IsBefore p (cond t (record p { line = p.line + 1; col = 1 }) (record p { col = p.col + 1 }))
    by true = (refl, inl (omega arith))
    by false = (refl, inr (refl, omega arith))

-- some bytes lead to a later place
rises : (text : List ℕ) (p : Place) → 0 < length text → IsBefore p (place_behind text p)
rises [] p h = absurd (omega arith)
rises (b ∷ []) p h = before_after b p
rises (b ∷ c ∷ bs) p h = before_trans p (after b p) (place_behind (c ∷ bs) (after b p)) (before_after b p) (rises (c ∷ bs) (after b p) (omega arith))

-- the list is whole, and begins at this place or later
abbrev Begins : Place → List Token → Type 0
Begins p [] = ⊥
Begins p (t ∷ ts) = ((t.place ≡ p) ⊎ IsBefore p t.place) × IsWhole (t ∷ ts)

begins_later : (p q : Place) (ts : List Token) → (q ≡ p) ⊎ IsBefore p q → Begins q ts → Begins p ts
begins_later p q [] e h = h
begins_later p q (t ∷ ts) (inl e) (inl f, w) = (inl (f ∙ e), w)
begins_later p q (t ∷ ts) (inl e) (inr f, w) = (inr (subst (λ x. IsBefore x t.place) e f), w)
begins_later p q (t ∷ ts) (inr e) (inl f, w) = (inr (subst (λ x. IsBefore p x) (sym f) e), w)
begins_later p q (t ∷ ts) (inr e) (inr f, w) = (inr (before_trans p q t.place e f), w)

maybe_rises : (text : List ℕ) (p : Place) → (place_behind text p ≡ p) ⊎ IsBefore p (place_behind text p)
maybe_rises [] p = inl refl
maybe_rises (b ∷ bs) p = inr (rises (b ∷ bs) p (omega arith))

no_end : (keeps : Bool) (k : TokenKind) (text rest : List ℕ) → IsToken keeps k text rest → is_end k ≡ false
no_end keeps (kind.Word w) text rest h = refl
no_end keeps (kind.Ident t) text rest h = refl
no_end keeps (kind.Number z) text rest h = refl
no_end keeps (kind.Str t) text rest h = refl
no_end keeps (kind.Sign s) text rest h = refl
no_end keeps kind.NewLine text rest h = refl
no_end keeps kind.End text rest h = absurd h

one_more : (p q : Place) (k : TokenKind) (ts : List Token) → is_end k ≡ false → IsBefore p q → Begins q ts → IsWhole (token p k ∷ ts)
one_more p q k [] n e h = absurd h
one_more p q k (t ∷ ts) n e (inl f, w) = (n, subst (λ x. IsBefore p x) (sym f) e, w)
one_more p q k (t ∷ ts) n e (inr f, w) = (n, before_trans p q t.place e f, w)

lexes_begins : (p : Place) (brackets : List Sign) (bs : List ℕ) (ts : List Token) → Lexes p brackets bs ts → Begins p ts
lexes_begins p brackets _ _ ends = (inl refl, refl)
lexes_begins p brackets bs ts (passes gap text rest e g h) = begins_later p (place_behind text p) ts (maybe_rises text p) (lexes_begins (place_behind text p) brackets rest ts h)
lexes_begins p brackets bs _ (takes {ts = ts} k text rest e g h) =
    (inl refl, one_more p (place_behind text p) k ts (no_end (keeps brackets) k text rest g) (rises text p (token_some (keeps brackets) k text rest g)) (lexes_begins (place_behind text p) (opened k brackets) rest ts h))

begins_whole : (p : Place) (ts : List Token) → Begins p ts → IsWhole ts
begins_whole p [] h = absurd h
begins_whole p (t ∷ ts) h = h.1

pub lexes_whole : (p : Place) (brackets : List Sign) (bs : List ℕ) (ts : List Token) → Lexes p brackets bs ts → IsWhole ts
lexes_whole p brackets bs ts h = begins_whole p ts (lexes_begins p brackets bs ts h)

-- a text has at most one list of tokens
pub one_list : (file : ℕ) (bytes : List ℕ) (ts us : List Token) → HasTokens file bytes ts → HasTokens file bytes us → ts ≡ us
one_list file bytes ts us h k =
    let left = lexes_reads (start_of file) [] bytes ts h.1 (length bytes) (omega arith) in
    let right = lexes_reads (start_of file) [] bytes us k.1 (length bytes) (omega arith) in
    cc

-- What lex returns, where the bytes are UTF-8.
pub has_tokens : (file : ℕ) (bytes : List ℕ) (ts : List Token) → IsUtf8 bytes → lexed (start_of file) bytes ≡ all ts → HasTokens file bytes ts
has_tokens file bytes ts u e = (u, lexed_claims (start_of file) bytes ts e)

pub has_whole : (file : ℕ) (bytes : List ℕ) (ts : List Token) → lexed (start_of file) bytes ≡ all ts → IsWhole ts
has_whole file bytes ts e = lexes_whole (start_of file) [] bytes ts (lexed_claims (start_of file) bytes ts e)

pub only : (file : ℕ) (bytes : List ℕ) (r : Result (List Token) LexError) (ts : List Token) → Gives r (lexed (start_of file) bytes) → HasTokens file bytes ts → GivesTokens ts r
only file bytes (Ok us) ts g h = let e = lexes_reads (start_of file) [] bytes ts h.1 (length bytes) (omega arith) in cc
only file bytes (Err (error.Fault f)) ts g h = let e = lexes_reads (start_of file) [] bytes ts h.1 (length bytes) (omega arith) in cc
only file bytes (Err error.OutOfMemory) ts g h = tt

pub fault : (file : ℕ) (bytes : List ℕ) (r : Result (List Token) LexError) → IsUtf8 bytes → Gives r (lexed (start_of file) bytes) → IsFaultOf file bytes r
fault file bytes (Ok us) u g = tt
fault file bytes (Err (error.Fault f)) u g = inl (u, bad_claims (start_of file) bytes f.place g)
fault file bytes (Err error.OutOfMemory) u g = tt

pub only_fault : (file : ℕ) (bytes : List ℕ) (r : Result (List Token) LexError) (q : Place) → IsUtf8 bytes → Gives r (lexed (start_of file) bytes) → HasFault file bytes q → GivesFault q r
only_fault file bytes r q u g (inr h) = absurd (h.0 u)
only_fault file bytes (Ok us) q u g (inl h) = let e = stops_reads (start_of file) [] bytes q h.1 (length bytes) (omega arith) in cc
only_fault file bytes (Err (error.Fault f)) q u g (inl h) = let e = stops_reads (start_of file) [] bytes q h.1 (length bytes) (omega arith) in cc
only_fault file bytes (Err error.OutOfMemory) q u g (inl h) = tt

pub no_fault_too : (file : ℕ) (bytes : List ℕ) (ts : List Token) (q : Place) → HasTokens file bytes ts → HasFault file bytes q → ⊥
no_fault_too file bytes ts q h (inr k) = k.0 h.0
no_fault_too file bytes ts q h (inl k) =
    let left = lexes_reads (start_of file) [] bytes ts h.1 (length bytes) (omega arith) in
    let right = stops_reads (start_of file) [] bytes q k.1 (length bytes) (omega arith) in
    cc

pub one_fault : (file : ℕ) (bytes : List ℕ) (p q : Place) → HasFault file bytes p → HasFault file bytes q → p ≡ q
one_fault file bytes p q (inl h) (inl k) =
    let left = stops_reads (start_of file) [] bytes p h.1 (length bytes) (omega arith) in
    let right = stops_reads (start_of file) [] bytes q k.1 (length bytes) (omega arith) in
    cc
one_fault file bytes p q (inl h) (inr k) = absurd (k.0 h.0)
one_fault file bytes p q (inr h) (inl k) = absurd (h.0 k.0)
one_fault file bytes p q (inr h) (inr k) = h.1 ∙ sym k.1

pub found_tokens : (file : ℕ) (bytes : List ℕ) (r : Result (List Token) LexError) → IsUtf8 bytes → Gives r (lexed (start_of file) bytes) → IfOk r (λ ts. HasTokens file bytes ts)
found_tokens file bytes (Ok ts) u e = has_tokens file bytes ts u e
found_tokens file bytes (Err f) u e = tt

pub found_whole : (file : ℕ) (bytes : List ℕ) (r : Result (List Token) LexError) → Gives r (lexed (start_of file) bytes) → IfOk r IsWhole
found_whole file bytes (Ok ts) e = has_whole file bytes ts e
found_whole file bytes (Err f) e = tt
