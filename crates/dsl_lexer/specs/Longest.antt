-- How tokens are spelled, whatever follows them.
use Rattle.std.specs.Prelude.{ℕ, ◌≡◌, true, List, [], ◌∷◌, ◌++◌, Some}
use Rattle.site_base.specs.Reading.{unit_size, IsWritten}
use Rattle.dsl_lexer.specs.Words.{word_spelling}
use Rattle.dsl_lexer.specs.Signs.{sign_spelling}
use Rattle.dsl_lexer.specs.Marks.{begins}
use Rattle.dsl_lexer.specs.Tokens.{is_name, Quoting, IsString}
use Rattle.dsl_lexer.specs.declared.mark.Mark.TheVariants as mark
use Rattle.dsl_lexer.specs.declared.token_kind.TokenKind.{TokenKind}
use Rattle.dsl_lexer.specs.declared.token_kind.TokenKind.TheVariants as kind

-- digits, then maybe a point and digits, then maybe a unit
abbrev pub IsNumber : List ℕ → Type 0
IsNumber text = (whole : List ℕ) × (behind : List ℕ) × (unit : List ℕ) × (size : ℕ) × IsWritten text whole behind unit × (unit_size unit ≡ Some size)

-- a text is spelled as such a token is; a number of any value stands for all of them, and of what follows only `!in`
-- asks
abbrev pub IsSpelling : TokenKind → List ℕ → List ℕ → Type 0
IsSpelling (kind.Word w) text rest = text ≡ word_spelling w
IsSpelling (kind.Ident name) text rest = (text ≡ name) × (is_name name ≡ true)
IsSpelling (kind.Number z) text rest = IsNumber text
IsSpelling (kind.Str value) text rest = (quoting : Quoting) × IsString quoting text value
IsSpelling (kind.Sign s) text rest = (text ≡ sign_spelling s) × (begins (mark.Sign s) (text ++ rest) ≡ true)
IsSpelling kind.NewLine text rest = text ≡ 10 ∷ []
IsSpelling kind.End text rest = ⊥
