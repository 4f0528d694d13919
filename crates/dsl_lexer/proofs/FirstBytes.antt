-- A text that begins with a mark is neither a blank, a newline, a name nor a number.
use Rattle.std.proofs.Common.{◌≡◌, ℕ, List, ◌++◌, Bool, refl}
use Rattle.dsl_lexer.specs.declared.sign.Sign.{Sign}
use Rattle.dsl_lexer.specs.declared.sign.Sign.TheVariants as sign
use Rattle.dsl_lexer.specs.declared.mark.Mark.{Mark}
use Rattle.dsl_lexer.specs.declared.mark.Mark.TheVariants as mark
use Rattle.dsl_lexer.specs.Marks.{mark_spelling}
use Rattle.dsl_lexer.specs.Steps.{step_at, mark_at}

sign_first : (keeps : Bool) (s : Sign) (xs : List ℕ) → step_at keeps (mark_spelling (mark.Sign s) ++ xs) ≡ mark_at (mark_spelling (mark.Sign s) ++ xs)
unfolding step_at
sign_first keeps sign.NotIn xs = refl
sign_first keeps sign.AddSet xs = refl
sign_first keeps sign.SubtractSet xs = refl
sign_first keeps sign.MultiplySet xs = refl
sign_first keeps sign.DivideSet xs = refl
sign_first keeps sign.Arrow xs = refl
sign_first keeps sign.Equal xs = refl
sign_first keeps sign.NotEqual xs = refl
sign_first keeps sign.AtMost xs = refl
sign_first keeps sign.AtLeast xs = refl
sign_first keeps sign.ShiftLeft xs = refl
sign_first keeps sign.ShiftRight xs = refl
sign_first keeps sign.And xs = refl
sign_first keeps sign.Or xs = refl
sign_first keeps sign.OpenParen xs = refl
sign_first keeps sign.CloseParen xs = refl
sign_first keeps sign.OpenBracket xs = refl
sign_first keeps sign.CloseBracket xs = refl
sign_first keeps sign.OpenBrace xs = refl
sign_first keeps sign.CloseBrace xs = refl
sign_first keeps sign.Dot xs = refl
sign_first keeps sign.Comma xs = refl
sign_first keeps sign.Semicolon xs = refl
sign_first keeps sign.Set xs = refl
sign_first keeps sign.Plus xs = refl
sign_first keeps sign.Minus xs = refl
sign_first keeps sign.Star xs = refl
sign_first keeps sign.Slash xs = refl
sign_first keeps sign.Percent xs = refl
sign_first keeps sign.Not xs = refl
sign_first keeps sign.Tilde xs = refl
sign_first keeps sign.Less xs = refl
sign_first keeps sign.Greater xs = refl
sign_first keeps sign.BitAnd xs = refl
sign_first keeps sign.BitXor xs = refl
sign_first keeps sign.BitOr xs = refl

pub mark_first : (keeps : Bool) (m : Mark) (xs : List ℕ) → step_at keeps (mark_spelling m ++ xs) ≡ mark_at (mark_spelling m ++ xs)
unfolding step_at
mark_first keeps (mark.Sign s) xs = sign_first keeps s xs
mark_first keeps mark.Hash xs = refl
mark_first keeps mark.DoubleSlash xs = refl
mark_first keeps mark.BlockComment xs = refl
mark_first keeps mark.Quote xs = refl
mark_first keeps mark.LongString xs = refl
