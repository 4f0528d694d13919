-- Which signs a print has where: each is the longest mark there. `Mark` is the lexer's own, so the mark of a sign is here
-- the one that its spelling has.
use Rattle.std.proofs.Common.{◌≡◌, ℕ, List, [], ◌∷◌, ◌++◌, true, false, cond, ◌&&◌, ◌==◌, codes, Option, Some, None, refl, ap, ◌∙◌, subst, arith}
use Rattle.std.proofs.lemmas.Bool.Decides.{nat_tests}
use Rattle.std.specs.List.{list_all}
use Rattle.dsl_syntax.specs.declared.un_op.UnOp.{UnOp}
use Rattle.dsl_syntax.specs.declared.un_op.UnOp.TheVariants as unary
use Rattle.dsl_syntax.specs.declared.bin_op.BinOp.{BinOp}
use Rattle.dsl_syntax.specs.declared.bin_op.BinOp.TheVariants as binary
use Rattle.dsl_syntax.specs.declared.set_op.SetOp.{SetOp}
use Rattle.dsl_syntax.specs.declared.set_op.SetOp.TheVariants as set
use Rattle.dsl_tree.specs.Operators.{unary_text, binary_text, set_text}
use Rattle.dsl_lexer.specs.declared.sign.Sign.{Sign}
use Rattle.dsl_lexer.specs.declared.sign.Sign.TheVariants as sign
use Rattle.dsl_lexer.specs.Letters.{is_name_start, is_name_byte}
use Rattle.dsl_lexer.specs.Signs.{sign_spelling}
use Rattle.dsl_lexer.specs.Marks.{mark_of}
use Rattle.dsl_lexer.specs.Tokens.{is_name}
use Rattle.dsl_lexer.proofs.Bytes.{both_first}

-- a name doesn't begin with `=`
no_equals : (b : ℕ) → is_name_start b ≡ true → (61 == b) ≡ false
no_equals b h = grind (arith, nat_tests)

-- nor with `<`
no_less : (b : ℕ) → is_name_start b ≡ true → (60 == b) ≡ false
no_less b h = grind (arith, nat_tests)

-- `<` before a name
pub less_mark : (n rest : List ℕ) → is_name n ≡ true → mark_of (60 ∷ (n ++ rest)) ≡ mark_of (sign_spelling sign.Less)
unfolding mark_of
less_mark [] rest h = absurd cc
less_mark (b ∷ bs) rest h =
    let start : is_name_start b ≡ true = both_first (is_name_start b) (list_all is_name_byte bs) h in
    ap (λ t. cond ((t && true) && true) (mark_of (sign_spelling sign.AtMost)) (cond (((60 == b) && true) && true) (mark_of (sign_spelling sign.ShiftLeft)) (mark_of (sign_spelling sign.Less)))) (no_equals b start)
    ∙ ap (λ t. cond ((t && true) && true) (mark_of (sign_spelling sign.ShiftLeft)) (mark_of (sign_spelling sign.Less))) (no_less b start)

-- `-` before a name
pub minus_mark : (n rest : List ℕ) → is_name n ≡ true → mark_of (45 ∷ (n ++ rest)) ≡ mark_of (sign_spelling sign.Minus)
unfolding mark_of
minus_mark [] rest h = absurd cc
minus_mark (b ∷ bs) rest h =
    ap (λ t. cond ((t && true) && true) (mark_of (sign_spelling sign.SubtractSet)) (mark_of (sign_spelling sign.Minus))) (no_equals b (both_first (is_name_start b) (list_all is_name_byte bs) h))

-- `.`, which nothing makes longer
pub dot_mark : (rest : List ℕ) → mark_of (46 ∷ rest) ≡ mark_of (sign_spelling sign.Dot)
unfolding mark_of
dot_mark rest = refl

-- `(`
pub open_paren_mark : (rest : List ℕ) → mark_of (40 ∷ rest) ≡ mark_of (sign_spelling sign.OpenParen)
unfolding mark_of
open_paren_mark rest = refl

-- `)`
pub close_paren_mark : (rest : List ℕ) → mark_of (41 ∷ rest) ≡ mark_of (sign_spelling sign.CloseParen)
unfolding mark_of
close_paren_mark rest = refl

-- `[`
pub open_bracket_mark : (rest : List ℕ) → mark_of (91 ∷ rest) ≡ mark_of (sign_spelling sign.OpenBracket)
unfolding mark_of
open_bracket_mark rest = refl

-- `]`
pub close_bracket_mark : (rest : List ℕ) → mark_of (93 ∷ rest) ≡ mark_of (sign_spelling sign.CloseBracket)
unfolding mark_of
close_bracket_mark rest = refl

-- `}`
pub close_brace_mark : (rest : List ℕ) → mark_of (125 ∷ rest) ≡ mark_of (sign_spelling sign.CloseBrace)
unfolding mark_of
close_brace_mark rest = refl

-- `,`
pub comma_mark : (rest : List ℕ) → mark_of (44 ∷ rest) ≡ mark_of (sign_spelling sign.Comma)
unfolding mark_of
comma_mark rest = refl

-- `{` before a newline
pub brace_line_mark : (rest : List ℕ) → mark_of (123 ∷ 10 ∷ rest) ≡ mark_of (sign_spelling sign.OpenBrace)
unfolding mark_of
brace_line_mark rest = refl

-- `{` before a blank
pub brace_blank_mark : (rest : List ℕ) → mark_of (123 ∷ 32 ∷ rest) ≡ mark_of (sign_spelling sign.OpenBrace)
unfolding mark_of
brace_blank_mark rest = refl

-- `=` before a blank
pub set_mark : (rest : List ℕ) → mark_of (61 ∷ 32 ∷ rest) ≡ mark_of (sign_spelling sign.Set)
unfolding mark_of
set_mark rest = refl

-- `=>` before a blank
pub arrow_mark : (rest : List ℕ) → mark_of (61 ∷ 62 ∷ 32 ∷ rest) ≡ mark_of (sign_spelling sign.Arrow)
unfolding mark_of
arrow_mark rest = refl

-- `>` before a newline
pub greater_mark : (rest : List ℕ) → mark_of (62 ∷ 10 ∷ rest) ≡ mark_of (sign_spelling sign.Greater)
unfolding mark_of
greater_mark rest = refl

-- the sign of an operator before its operand
abbrev pub unary_sign : UnOp → Sign
unary_sign unary.Not = sign.Not
unary_sign unary.Complement = sign.Tilde
unary_sign unary.Plus = sign.Plus
unary_sign unary.Minus = sign.Minus

-- it is spelled so
pub unary_spelled : (o : UnOp) → unary_text o ≡ sign_spelling (unary_sign o)
unary_spelled unary.Not = refl
unary_spelled unary.Complement = refl
unary_spelled unary.Plus = refl
unary_spelled unary.Minus = refl

-- the sign of an operator between its operands; `in` is a word
abbrev pub binary_sign : BinOp → Option Sign
binary_sign binary.Mul = Some sign.Star
binary_sign binary.Div = Some sign.Slash
binary_sign binary.Rem = Some sign.Percent
binary_sign binary.Add = Some sign.Plus
binary_sign binary.Sub = Some sign.Minus
binary_sign binary.ShiftLeft = Some sign.ShiftLeft
binary_sign binary.ShiftRight = Some sign.ShiftRight
binary_sign binary.Less = Some sign.Less
binary_sign binary.Greater = Some sign.Greater
binary_sign binary.LessEqual = Some sign.AtMost
binary_sign binary.GreaterEqual = Some sign.AtLeast
binary_sign binary.In = None
binary_sign binary.NotIn = Some sign.NotIn
binary_sign binary.Equal = Some sign.Equal
binary_sign binary.NotEqual = Some sign.NotEqual
binary_sign binary.BitAnd = Some sign.BitAnd
binary_sign binary.BitXor = Some sign.BitXor
binary_sign binary.BitOr = Some sign.BitOr
binary_sign binary.And = Some sign.And
binary_sign binary.Or = Some sign.Or

-- a text is the spelling of a sign, and that sign is the longest mark where a blank follows
abbrev Stands : List ℕ → List ℕ → Sign → Type 0
Stands text rest s = (text ≡ sign_spelling s) × (mark_of (text ++ 32 ∷ rest) ≡ mark_of (sign_spelling s))

-- what holds of a sign holds of the one that it is
stands : (text rest : List ℕ) (a s : Sign) → Stands text rest a → Some a ≡ Some s → Stands text rest s
stands text rest a s h e = let same : a ≡ s = cc in subst (Stands text rest) same h

-- an operator between its operands is spelled as its sign, and is the mark before a blank
pub binary_mark : (o : BinOp) (s : Sign) (rest : List ℕ) → binary_sign o ≡ Some s → (binary_text o ≡ sign_spelling s) × (mark_of (binary_text o ++ 32 ∷ rest) ≡ mark_of (sign_spelling s))
unfolding mark_of
binary_mark binary.Mul s rest e = stands (codes "*") rest sign.Star s (refl, refl) e
binary_mark binary.Div s rest e = stands (codes "/") rest sign.Slash s (refl, refl) e
binary_mark binary.Rem s rest e = stands (codes "%") rest sign.Percent s (refl, refl) e
binary_mark binary.Add s rest e = stands (codes "+") rest sign.Plus s (refl, refl) e
binary_mark binary.Sub s rest e = stands (codes "-") rest sign.Minus s (refl, refl) e
binary_mark binary.ShiftLeft s rest e = stands (codes "<<") rest sign.ShiftLeft s (refl, refl) e
binary_mark binary.ShiftRight s rest e = stands (codes ">>") rest sign.ShiftRight s (refl, refl) e
binary_mark binary.Less s rest e = stands (codes "<") rest sign.Less s (refl, refl) e
binary_mark binary.Greater s rest e = stands (codes ">") rest sign.Greater s (refl, refl) e
binary_mark binary.LessEqual s rest e = stands (codes "<=") rest sign.AtMost s (refl, refl) e
binary_mark binary.GreaterEqual s rest e = stands (codes ">=") rest sign.AtLeast s (refl, refl) e
binary_mark binary.In s rest e = absurd cc
binary_mark binary.NotIn s rest e = stands (codes "!in") rest sign.NotIn s (refl, refl) e
binary_mark binary.Equal s rest e = stands (codes "==") rest sign.Equal s (refl, refl) e
binary_mark binary.NotEqual s rest e = stands (codes "!=") rest sign.NotEqual s (refl, refl) e
binary_mark binary.BitAnd s rest e = stands (codes "&") rest sign.BitAnd s (refl, refl) e
binary_mark binary.BitXor s rest e = stands (codes "^") rest sign.BitXor s (refl, refl) e
binary_mark binary.BitOr s rest e = stands (codes "|") rest sign.BitOr s (refl, refl) e
binary_mark binary.And s rest e = stands (codes "&&") rest sign.And s (refl, refl) e
binary_mark binary.Or s rest e = stands (codes "||") rest sign.Or s (refl, refl) e

-- the sign of an assignment
abbrev pub set_sign : SetOp → Sign
set_sign set.Plain = sign.Set
set_sign set.Add = sign.AddSet
set_sign set.Sub = sign.SubtractSet
set_sign set.Mul = sign.MultiplySet
set_sign set.Div = sign.DivideSet

-- it is spelled so
pub set_spelled : (o : SetOp) → set_text o ≡ sign_spelling (set_sign o)
set_spelled set.Plain = refl
set_spelled set.Add = refl
set_spelled set.Sub = refl
set_spelled set.Mul = refl
set_spelled set.Div = refl

-- and is the mark before a blank
pub set_op_mark : (o : SetOp) (rest : List ℕ) → mark_of (set_text o ++ 32 ∷ rest) ≡ mark_of (sign_spelling (set_sign o))
unfolding mark_of
set_op_mark set.Plain rest = refl
set_op_mark set.Add rest = refl
set_op_mark set.Sub rest = refl
set_op_mark set.Mul rest = refl
set_op_mark set.Div rest = refl
