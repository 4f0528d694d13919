-- The signs of a print as tokens.
use Rattle.std.proofs.Common.{◌≡◌, ℕ, List, [], ◌∷◌, ◌++◌, Bool, true, false, Some, refl}
use Rattle.dsl_syntax.specs.Syntax.{Expression}
use Rattle.dsl_syntax.specs.declared.un_op.UnOp.{UnOp}
use Rattle.dsl_syntax.specs.declared.bin_op.BinOp.{BinOp}
use Rattle.dsl_syntax.specs.declared.set_op.SetOp.{SetOp}
use Rattle.dsl_tree.specs.Operators.{unary_text, binary_text, set_text}
use Rattle.dsl_tree.specs.Spelling.{operand_text}
use Rattle.dsl_lexer.specs.declared.sign.Sign.{Sign}
use Rattle.dsl_lexer.specs.declared.sign.Sign.TheVariants as sign
use Rattle.dsl_lexer.specs.declared.token_kind.TokenKind.TheVariants as kind
use Rattle.dsl_lexer.specs.Letters.{goes_on}
use Rattle.dsl_lexer.specs.Signs.{sign_spelling}
use Rattle.dsl_lexer.specs.Marks.{mark_of}
use Rattle.dsl_lexer.specs.Tokens.{is_name, IsToken}
use Rattle.dsl_lexer.proofs.MarkLaws.{mark_sound}
use Rattle.dsl_print.proofs.Good.{Good}
use Rattle.dsl_print.proofs.Signs.{less_mark, minus_mark, dot_mark, open_paren_mark, close_paren_mark, open_bracket_mark, close_bracket_mark, close_brace_mark, comma_mark, brace_line_mark, brace_blank_mark, set_mark, arrow_mark, greater_mark, unary_sign, unary_spelled, binary_sign, binary_mark, set_sign, set_spelled, set_op_mark}
use Rattle.dsl_print.proofs.Operands.{unary_mark}

-- a sign that is the longest mark is a token
pub sign_token : (keeps : Bool) (s : Sign) (text rest : List ℕ) → text ≡ sign_spelling s → mark_of (text ++ rest) ≡ mark_of (sign_spelling s) → IsToken keeps (kind.Sign s) text rest
unfolding mark_of
sign_token keeps sign.NotIn text rest e m = (e, mark_sound (text ++ rest) _ m)
sign_token keeps sign.AddSet text rest e m = (e, mark_sound (text ++ rest) _ m)
sign_token keeps sign.SubtractSet text rest e m = (e, mark_sound (text ++ rest) _ m)
sign_token keeps sign.MultiplySet text rest e m = (e, mark_sound (text ++ rest) _ m)
sign_token keeps sign.DivideSet text rest e m = (e, mark_sound (text ++ rest) _ m)
sign_token keeps sign.Arrow text rest e m = (e, mark_sound (text ++ rest) _ m)
sign_token keeps sign.Equal text rest e m = (e, mark_sound (text ++ rest) _ m)
sign_token keeps sign.NotEqual text rest e m = (e, mark_sound (text ++ rest) _ m)
sign_token keeps sign.AtMost text rest e m = (e, mark_sound (text ++ rest) _ m)
sign_token keeps sign.AtLeast text rest e m = (e, mark_sound (text ++ rest) _ m)
sign_token keeps sign.ShiftLeft text rest e m = (e, mark_sound (text ++ rest) _ m)
sign_token keeps sign.ShiftRight text rest e m = (e, mark_sound (text ++ rest) _ m)
sign_token keeps sign.And text rest e m = (e, mark_sound (text ++ rest) _ m)
sign_token keeps sign.Or text rest e m = (e, mark_sound (text ++ rest) _ m)
sign_token keeps sign.OpenParen text rest e m = (e, mark_sound (text ++ rest) _ m)
sign_token keeps sign.CloseParen text rest e m = (e, mark_sound (text ++ rest) _ m)
sign_token keeps sign.OpenBracket text rest e m = (e, mark_sound (text ++ rest) _ m)
sign_token keeps sign.CloseBracket text rest e m = (e, mark_sound (text ++ rest) _ m)
sign_token keeps sign.OpenBrace text rest e m = (e, mark_sound (text ++ rest) _ m)
sign_token keeps sign.CloseBrace text rest e m = (e, mark_sound (text ++ rest) _ m)
sign_token keeps sign.Dot text rest e m = (e, mark_sound (text ++ rest) _ m)
sign_token keeps sign.Comma text rest e m = (e, mark_sound (text ++ rest) _ m)
sign_token keeps sign.Semicolon text rest e m = (e, mark_sound (text ++ rest) _ m)
sign_token keeps sign.Set text rest e m = (e, mark_sound (text ++ rest) _ m)
sign_token keeps sign.Plus text rest e m = (e, mark_sound (text ++ rest) _ m)
sign_token keeps sign.Minus text rest e m = (e, mark_sound (text ++ rest) _ m)
sign_token keeps sign.Star text rest e m = (e, mark_sound (text ++ rest) _ m)
sign_token keeps sign.Slash text rest e m = (e, mark_sound (text ++ rest) _ m)
sign_token keeps sign.Percent text rest e m = (e, mark_sound (text ++ rest) _ m)
sign_token keeps sign.Not text rest e m = (e, mark_sound (text ++ rest) _ m)
sign_token keeps sign.Tilde text rest e m = (e, mark_sound (text ++ rest) _ m)
sign_token keeps sign.Less text rest e m = (e, mark_sound (text ++ rest) _ m)
sign_token keeps sign.Greater text rest e m = (e, mark_sound (text ++ rest) _ m)
sign_token keeps sign.BitAnd text rest e m = (e, mark_sound (text ++ rest) _ m)
sign_token keeps sign.BitXor text rest e m = (e, mark_sound (text ++ rest) _ m)
sign_token keeps sign.BitOr text rest e m = (e, mark_sound (text ++ rest) _ m)

-- `<` and `-` before a name
pub less_token : (k : Bool) (n rest : List ℕ) → is_name n ≡ true → IsToken k (kind.Sign sign.Less) (60 ∷ []) (n ++ rest)
less_token k n rest h = sign_token k sign.Less (60 ∷ []) (n ++ rest) refl (less_mark n rest h)

pub minus_token : (k : Bool) (n rest : List ℕ) → is_name n ≡ true → IsToken k (kind.Sign sign.Minus) (45 ∷ []) (n ++ rest)
minus_token k n rest h = sign_token k sign.Minus (45 ∷ []) (n ++ rest) refl (minus_mark n rest h)

-- signs before any text
pub dot_token : (k : Bool) (rest : List ℕ) → IsToken k (kind.Sign sign.Dot) (46 ∷ []) rest
dot_token k rest = sign_token k sign.Dot (46 ∷ []) rest refl (dot_mark rest)

pub open_paren_token : (k : Bool) (rest : List ℕ) → IsToken k (kind.Sign sign.OpenParen) (40 ∷ []) rest
open_paren_token k rest = sign_token k sign.OpenParen (40 ∷ []) rest refl (open_paren_mark rest)

pub close_paren_token : (k : Bool) (rest : List ℕ) → IsToken k (kind.Sign sign.CloseParen) (41 ∷ []) rest
close_paren_token k rest = sign_token k sign.CloseParen (41 ∷ []) rest refl (close_paren_mark rest)

pub open_bracket_token : (k : Bool) (rest : List ℕ) → IsToken k (kind.Sign sign.OpenBracket) (91 ∷ []) rest
open_bracket_token k rest = sign_token k sign.OpenBracket (91 ∷ []) rest refl (open_bracket_mark rest)

pub close_bracket_token : (k : Bool) (rest : List ℕ) → IsToken k (kind.Sign sign.CloseBracket) (93 ∷ []) rest
close_bracket_token k rest = sign_token k sign.CloseBracket (93 ∷ []) rest refl (close_bracket_mark rest)

pub close_brace_token : (k : Bool) (rest : List ℕ) → IsToken k (kind.Sign sign.CloseBrace) (125 ∷ []) rest
close_brace_token k rest = sign_token k sign.CloseBrace (125 ∷ []) rest refl (close_brace_mark rest)

pub comma_token : (k : Bool) (rest : List ℕ) → IsToken k (kind.Sign sign.Comma) (44 ∷ []) rest
comma_token k rest = sign_token k sign.Comma (44 ∷ []) rest refl (comma_mark rest)

-- signs before a newline or a blank
pub brace_line_token : (k : Bool) (rest : List ℕ) → IsToken k (kind.Sign sign.OpenBrace) (123 ∷ []) (10 ∷ rest)
brace_line_token k rest = sign_token k sign.OpenBrace (123 ∷ []) (10 ∷ rest) refl (brace_line_mark rest)

pub brace_blank_token : (k : Bool) (rest : List ℕ) → IsToken k (kind.Sign sign.OpenBrace) (123 ∷ []) (32 ∷ rest)
brace_blank_token k rest = sign_token k sign.OpenBrace (123 ∷ []) (32 ∷ rest) refl (brace_blank_mark rest)

pub set_token : (k : Bool) (rest : List ℕ) → IsToken k (kind.Sign sign.Set) (61 ∷ []) (32 ∷ rest)
set_token k rest = sign_token k sign.Set (61 ∷ []) (32 ∷ rest) refl (set_mark rest)

pub arrow_token : (k : Bool) (rest : List ℕ) → IsToken k (kind.Sign sign.Arrow) (61 ∷ 62 ∷ []) (32 ∷ rest)
arrow_token k rest = sign_token k sign.Arrow (61 ∷ 62 ∷ []) (32 ∷ rest) refl (arrow_mark rest)

pub greater_token : (k : Bool) (rest : List ℕ) → IsToken k (kind.Sign sign.Greater) (62 ∷ []) (10 ∷ rest)
greater_token k rest = sign_token k sign.Greater (62 ∷ []) (10 ∷ rest) refl (greater_mark rest)

-- an operator before its operand
pub unary_token : (k : Bool) (o : UnOp) (e : Expression) (rest : List ℕ) → Good e → goes_on rest ≡ false → IsToken k (kind.Sign (unary_sign o)) (unary_text o) (operand_text e ++ rest)
unary_token k o e rest h g = sign_token k (unary_sign o) (unary_text o) (operand_text e ++ rest) (unary_spelled o) (unary_mark o e rest h g)

-- an operator between its operands, before a blank
pub binary_token : (k : Bool) (o : BinOp) (s : Sign) (rest : List ℕ) → binary_sign o ≡ Some s → IsToken k (kind.Sign s) (binary_text o) (32 ∷ rest)
binary_token k o s rest e = let b = binary_mark o s rest e in sign_token k s (binary_text o) (32 ∷ rest) b.0 b.1

-- the operator of an assignment, before a blank
pub set_op_token : (k : Bool) (o : SetOp) (rest : List ℕ) → IsToken k (kind.Sign (set_sign o)) (set_text o) (32 ∷ rest)
set_op_token k o rest = sign_token k (set_sign o) (set_text o) (32 ∷ rest) (set_spelled o) (set_op_mark o rest)
