-- The brackets that are open at a place, the innermost last.
use Rattle.std.specs.Prelude.{◌-◌, List, [], ◌∷◌, ◌++◌, Bool, true, false, take, length, slice_get, Option, Some}
use Rattle.dsl_lexer.specs.declared.sign.Sign.{Sign}
use Rattle.dsl_lexer.specs.declared.sign.Sign.TheVariants as sign
use Rattle.dsl_lexer.specs.declared.token_kind.TokenKind.{TokenKind}
use Rattle.dsl_lexer.specs.declared.token_kind.TokenKind.TheVariants as kind

-- whether newlines are tokens inside this bracket
abbrev pub keeps_inside : Option Sign → Bool
keeps_inside (Some sign.OpenParen) = false
keeps_inside (Some sign.OpenBracket) = false
keeps_inside s = true

-- whether newlines are tokens inside these brackets, the innermost last
abbrev pub keeps : List Sign → Bool
keeps brackets = keeps_inside (slice_get brackets (length brackets - 1))

-- the open brackets behind a token: a closing one takes off the last
abbrev pub opened_by : Sign → List Sign → List Sign
opened_by sign.OpenParen brackets = brackets ++ sign.OpenParen ∷ []
opened_by sign.OpenBracket brackets = brackets ++ sign.OpenBracket ∷ []
opened_by sign.OpenBrace brackets = brackets ++ sign.OpenBrace ∷ []
opened_by sign.CloseParen brackets = take (length brackets - 1) brackets
opened_by sign.CloseBracket brackets = take (length brackets - 1) brackets
opened_by sign.CloseBrace brackets = take (length brackets - 1) brackets
opened_by s brackets = brackets

abbrev pub opened : TokenKind → List Sign → List Sign
opened (kind.Sign s) brackets = opened_by s brackets
opened k brackets = brackets
