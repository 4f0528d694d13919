-- What is read of the bytes of a file beside the tokens that they have.
use Rattle.std.proofs.Common.{◌≡◌, inl, inr, ℕ, Bool, true, false, cond, List, [], take, length, Ok, Err, refl, sym, ap, ◌∙◌, arith}
use Rattle.std.specs.Str.{IsUtf8, is_utf8}
use Rattle.std.specs.Str.Lossy.{utf8_valid_len}
use Rattle.std.proofs.lemmas.Bool.{false≢true}
use Rattle.std.proofs.lemmas.Str.{is_utf8-from_IsUtf8, IsUtf8-from_is_utf8}
use Rattle.site_base.specs.declared.place.Place.{Place}
use Rattle.dsl_lexer.specs.Lexing.{Lexed, all, bad, lexed, file_tokens}
use Rattle.dsl_lexer.specs.Lists.{HasTokens, HasFault, IsWhole}
use Rattle.dsl_lexer.specs.Places.{start_of, place_behind}
use Rattle.dsl_lexer.specs.declared.token.Token.{Token}
use Rattle.dsl_lexer.specs.declared.lex_error.LexError.TheVariants as error
use Rattle.dsl_lexer.proofs.LexLaws.{lexes_reads, stops_reads}
use Rattle.dsl_lexer.proofs.ListLaws.{found_tokens, has_whole, fault}

abbrev read_by : ℕ → List ℕ → Bool → Lexed
read_by file bytes b = cond b (lexed (start_of file) bytes) (bad (place_behind (take (utf8_valid_len bytes) bytes) (start_of file)))

utf8_read : (file : ℕ) (bytes : List ℕ) → IsUtf8 bytes → file_tokens file bytes ≡ lexed (start_of file) bytes
utf8_read file bytes u = ap (read_by file bytes) (is_utf8-from_IsUtf8 bytes u)

not_utf8 : (bytes : List ℕ) (b : Bool) → is_utf8 bytes ≡ b → (IsUtf8 bytes → ⊥) → b ≡ false
not_utf8 bytes true e n = absurd (n (IsUtf8-from_is_utf8 bytes e))
not_utf8 bytes false e n = refl

pub has_tokens : (file : ℕ) (bytes : List ℕ) (ts : List Token) → HasTokens file bytes ts → file_tokens file bytes ≡ all ts
has_tokens file bytes ts h = utf8_read file bytes h.0 ∙ lexes_reads (start_of file) [] bytes ts h.1 (length bytes) (omega arith)

pub has_fault : (file : ℕ) (bytes : List ℕ) (place : Place) → HasFault file bytes place → file_tokens file bytes ≡ bad place
has_fault file bytes place (inl h) = utf8_read file bytes h.0 ∙ stops_reads (start_of file) [] bytes place h.1 (length bytes) (omega arith)
has_fault file bytes place (inr h) = ap (read_by file bytes) (not_utf8 bytes (is_utf8 bytes) refl h.0) ∙ ap bad (sym h.1)

abbrev bad_place : Lexed → Place → Place
bad_place (all ts) p = p
bad_place (bad q) p = q

-- a test that fails is failed by no proof
no_utf8 : (bytes : List ℕ) → is_utf8 bytes ≡ false → IsUtf8 bytes → ⊥
no_utf8 bytes e u = false≢true (sym e ∙ is_utf8-from_IsUtf8 bytes u)

tokens_by : (file : ℕ) (bytes : List ℕ) (ts : List Token) (b : Bool) → is_utf8 bytes ≡ b → read_by file bytes b ≡ all ts → HasTokens file bytes ts
tokens_by file bytes ts true u e = found_tokens file bytes (Ok ts) (IsUtf8-from_is_utf8 bytes u) e
tokens_by file bytes ts false u e = absurd (cc e)

pub read_tokens : (file : ℕ) (bytes : List ℕ) (ts : List Token) → file_tokens file bytes ≡ all ts → HasTokens file bytes ts
read_tokens file bytes ts e = tokens_by file bytes ts (is_utf8 bytes) refl e

whole_by : (file : ℕ) (bytes : List ℕ) (ts : List Token) (b : Bool) → read_by file bytes b ≡ all ts → IsWhole ts
whole_by file bytes ts true e = has_whole file bytes ts e
whole_by file bytes ts false e = absurd (cc e)

pub read_whole : (file : ℕ) (bytes : List ℕ) (ts : List Token) → file_tokens file bytes ≡ all ts → IsWhole ts
read_whole file bytes ts e = whole_by file bytes ts (is_utf8 bytes) e

fault_by : (file : ℕ) (bytes : List ℕ) (place : Place) (b : Bool) → is_utf8 bytes ≡ b → read_by file bytes b ≡ bad place → HasFault file bytes place
fault_by file bytes place true u e = fault file bytes (Err (error.Fault (record { place = place }))) (IsUtf8-from_is_utf8 bytes u) e
fault_by file bytes place false u e = inr (no_utf8 bytes u, sym (ap (λ l. bad_place l place) e))

pub read_fault : (file : ℕ) (bytes : List ℕ) (place : Place) → file_tokens file bytes ≡ bad place → HasFault file bytes place
read_fault file bytes place e = fault_by file bytes place (is_utf8 bytes) refl e
