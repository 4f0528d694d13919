-- What a text has: its tokens or the place of its fault; and what every list of tokens is.
use Rattle.std.specs.Prelude.{ℕ, ◌≡◌, ◌<◌, List, [], ◌∷◌, Bool, true, false, take, Result, Ok, Err, ◌⊎◌}
use Rattle.std.specs.Str.{IsUtf8}
use Rattle.std.specs.Str.Lossy.{utf8_valid_len}
use Rattle.site_base.specs.declared.place.Place.{Place}
use Rattle.dsl_lexer.specs.Places.{start_of, place_behind}
use Rattle.dsl_lexer.specs.Tokens.{Lexes, StopsAt}
use Rattle.dsl_lexer.specs.declared.token.Token.{Token}
use Rattle.dsl_lexer.specs.declared.token_kind.TokenKind.{TokenKind}
use Rattle.dsl_lexer.specs.declared.token_kind.TokenKind.TheVariants as kind
use Rattle.dsl_lexer.specs.declared.lex_error.LexError.{LexError}
use Rattle.dsl_lexer.specs.declared.lex_error.LexError.TheVariants as error

-- the bytes of a file are UTF-8 and have these tokens
abbrev pub HasTokens : ℕ → List ℕ → List Token → Type 0
HasTokens file bytes ts = IsUtf8 bytes × Lexes (start_of file) [] bytes ts

-- the bytes of a file are UTF-8 and stop at this place; or they aren't, and this is the place behind the longest front
-- that is
abbrev pub HasFault : ℕ → List ℕ → Place → Type 0
HasFault file bytes place =
    (IsUtf8 bytes × StopsAt (start_of file) [] bytes place) ⊎ ((IsUtf8 bytes → ⊥) × (place ≡ place_behind (take (utf8_valid_len bytes) bytes) (start_of file)))

-- these tokens are given, unless memory runs out
abbrev pub GivesTokens : List Token → Result (List Token) LexError → Type 0
GivesTokens ts (Ok found) = found ≡ ts
GivesTokens ts (Err (error.Fault f)) = ⊥
GivesTokens ts (Err error.OutOfMemory) = Unit {0}

-- the fault at this place is given, unless memory runs out
abbrev pub GivesFault : Place → Result (List Token) LexError → Type 0
GivesFault place (Ok found) = ⊥
GivesFault place (Err (error.Fault f)) = f.place ≡ place
GivesFault place (Err error.OutOfMemory) = Unit {0}

-- a fault that is given is one that the bytes have
abbrev pub IsFaultOf : ℕ → List ℕ → Result (List Token) LexError → Type 0
IsFaultOf file bytes (Ok found) = Unit {0}
IsFaultOf file bytes (Err (error.Fault f)) = HasFault file bytes f.place
IsFaultOf file bytes (Err error.OutOfMemory) = Unit {0}

abbrev pub is_end : TokenKind → Bool
is_end kind.End = true
is_end k = false

-- of two places in one file, the first stands before the second
abbrev pub IsBefore : Place → Place → Type 0
IsBefore p q = (p.file ≡ q.file) × ((p.line < q.line) ⊎ ((p.line ≡ q.line) × (p.col < q.col)))

-- the last token is the end, no other is, and the places rise
abbrev pub IsWhole : List Token → Type 0
IsWhole [] = ⊥
IsWhole (t ∷ []) = is_end t.kind ≡ true
IsWhole (t ∷ u ∷ ts) = (is_end t.kind ≡ false) × IsBefore t.place u.place × IsWhole (u ∷ ts)
