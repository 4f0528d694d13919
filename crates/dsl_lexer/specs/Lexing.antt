-- The tokens of a whole text, read byte by byte.
use Rattle.std.specs.Prelude.{◌≡◌, ℕ, zero, suc, List, [], ◌∷◌, ◌++◌, take, drop, length, Result, Ok, Err, if◌then◌else◌}
use Rattle.std.specs.Str.{is_utf8}
use Rattle.std.specs.Str.Lossy.{utf8_valid_len}
use Rattle.site_base.specs.declared.place.Place.{Place}
use Rattle.dsl_lexer.specs.Places.{start_of, place_behind}
use Rattle.dsl_lexer.specs.Brackets.{keeps, opened}
use Rattle.dsl_lexer.specs.Tokens.{token}
use Rattle.dsl_lexer.specs.Steps.{step_at}
use Rattle.dsl_lexer.specs.declared.sign.Sign.{Sign}
use Rattle.dsl_lexer.specs.declared.token.Token.{Token}
use Rattle.dsl_lexer.specs.declared.token_kind.TokenKind.TheVariants as kind
use Rattle.dsl_lexer.specs.declared.stepping.Step.{Step}
use Rattle.dsl_lexer.specs.declared.stepping.Step.TheVariants as step
use Rattle.dsl_lexer.specs.declared.lex_error.LexError.{LexError}
use Rattle.dsl_lexer.specs.declared.lex_error.LexError.TheVariants as error

-- all tokens, or the place of what begins none
pub data Lexed : Type 0 where
  all : List Token → Lexed
  bad : Place → Lexed

abbrev pub with_front : List Token → Lexed → Lexed
with_front front (all ts) = all (front ++ ts)
with_front front (bad p) = bad p

abbrev pub lex_step : (Place → List Sign → List ℕ → Lexed) → Place → List Sign → List ℕ → Step → Lexed
lex_step more p brackets bytes (step.Passed n) = more (place_behind (take n bytes) p) brackets (drop n bytes)
lex_step more p brackets bytes (step.Taken n k) = with_front (token p k ∷ []) (more (place_behind (take n bytes) p) (opened k brackets) (drop n bytes))
lex_step more p brackets bytes step.Fault = bad p

-- with a bound on the steps
abbrev pub lexed_within : ℕ → Place → List Sign → List ℕ → Lexed
lexed_within most p brackets [] = all (token p kind.End ∷ [])
lexed_within zero p brackets (b ∷ bs) = bad p
lexed_within (suc most) p brackets (b ∷ bs) = lex_step (lexed_within most) p brackets (b ∷ bs) (step_at (keeps brackets) (b ∷ bs))

abbrev pub lexed : Place → List ℕ → Lexed
lexed p bytes = lexed_within (length bytes) p [] bytes

abbrev pub Gives : Result (List Token) LexError → Lexed → Type 0
Gives (Ok ts) r = r ≡ all ts
Gives (Err (error.Fault f)) r = r ≡ bad f.place
Gives (Err error.OutOfMemory) r = Unit {0}

-- the tokens of the bytes of a file, or the place of what begins none; bytes that aren't UTF-8 go wrong where they stop to be
abbrev pub file_tokens : ℕ → List ℕ → Lexed
file_tokens file bytes = if is_utf8 bytes then lexed (start_of file) bytes else bad (place_behind (take (utf8_valid_len bytes) bytes) (start_of file))
