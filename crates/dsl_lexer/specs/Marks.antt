-- What signs, strings and comments begin with.
use Rattle.std.specs.Prelude.{ℕ, List, [], ◌∷◌, ◌&&◌, not, Bool, true, false, codes, filter, length, take, drop, Option, Some, None, if◌then◌else◌}
use Rattle.std.specs.Str.{bytes_eq}
use Rattle.dsl_lexer.specs.Letters.{goes_on, starts_with}
use Rattle.dsl_lexer.specs.Signs.{sign_spelling}
use Rattle.dsl_lexer.specs.declared.sign.Sign.TheVariants as sign
use Rattle.dsl_lexer.specs.declared.mark.Mark.{Mark}
use Rattle.dsl_lexer.specs.declared.mark.Mark.TheVariants as mark

abbrev pub mark_spelling : Mark → List ℕ
mark_spelling (mark.Sign s) = sign_spelling s
mark_spelling mark.Hash = codes "#"
mark_spelling mark.DoubleSlash = codes "//"
mark_spelling mark.BlockComment = codes "/*"
mark_spelling mark.Quote = 34 ∷ []
mark_spelling mark.LongString = codes "{{{"

-- whether a mark has to stand alone: no letter, digit or `_` follows it
abbrev pub stands_alone : Mark → Bool
stands_alone (mark.Sign sign.NotIn) = true
stands_alone m = false

-- whether the mark stands at the front of a text
abbrev pub begins : Mark → List ℕ → Bool
begins m text =
    bytes_eq (mark_spelling m) (take (length (mark_spelling m)) text) && not (stands_alone m && goes_on (drop (length (mark_spelling m)) text))

-- all of them, none before a longer one
abbrev pub all_marks : List Mark
all_marks =
    mark.LongString ∷ mark.Sign sign.NotIn ∷ mark.DoubleSlash ∷ mark.BlockComment ∷ mark.Sign sign.AddSet ∷ mark.Sign sign.SubtractSet ∷ mark.Sign sign.MultiplySet ∷ mark.Sign sign.DivideSet ∷ mark.Sign sign.Arrow ∷ mark.Sign sign.Equal ∷ mark.Sign sign.NotEqual ∷ mark.Sign sign.AtMost ∷ mark.Sign sign.AtLeast ∷ mark.Sign sign.ShiftLeft ∷ mark.Sign sign.ShiftRight ∷ mark.Sign sign.And ∷ mark.Sign sign.Or ∷ mark.Hash ∷ mark.Quote ∷ mark.Sign sign.OpenParen ∷ mark.Sign sign.CloseParen ∷ mark.Sign sign.OpenBracket ∷ mark.Sign sign.CloseBracket ∷ mark.Sign sign.OpenBrace ∷ mark.Sign sign.CloseBrace ∷ mark.Sign sign.Dot ∷ mark.Sign sign.Comma ∷ mark.Sign sign.Semicolon ∷ mark.Sign sign.Set ∷ mark.Sign sign.Plus ∷ mark.Sign sign.Minus ∷ mark.Sign sign.Star ∷ mark.Sign sign.Slash ∷ mark.Sign sign.Percent ∷ mark.Sign sign.Not ∷ mark.Sign sign.Tilde ∷ mark.Sign sign.Less ∷ mark.Sign sign.Greater ∷ mark.Sign sign.BitAnd ∷ mark.Sign sign.BitXor ∷ mark.Sign sign.BitOr ∷ []

-- those that begin with this byte
abbrev pub marks_from : ℕ → List Mark
marks_from b = filter (λ m. starts_with b (mark_spelling m)) all_marks

-- the first mark of these that a text begins with
abbrev pub mark_among : List Mark → List ℕ → Option Mark
mark_among [] text = None
mark_among (m ∷ ms) text = if begins m text then Some m else mark_among ms text

-- the longest mark that a text begins with
unfoldable pub mark_of : List ℕ → Option Mark
mark_of text = mark_among all_marks text
