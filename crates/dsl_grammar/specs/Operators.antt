-- The operators and what they stand for.
use Rattle.std.specs.Prelude.{ℕ, zero, suc, List, [], ◌∷◌}
use Rattle.dsl_syntax.specs.declared.set_op.SetOp.{SetOp}
use Rattle.dsl_syntax.specs.declared.set_op.SetOp.TheVariants as sets
use Rattle.dsl_syntax.specs.declared.un_op.UnOp.{UnOp}
use Rattle.dsl_syntax.specs.declared.un_op.UnOp.TheVariants as unary
use Rattle.dsl_syntax.specs.declared.bin_op.BinOp.{BinOp}
use Rattle.dsl_syntax.specs.declared.bin_op.BinOp.TheVariants as binary
use Rattle.dsl_lexer.specs.declared.token_kind.TokenKind.{TokenKind}
use Rattle.dsl_lexer.specs.declared.token_kind.TokenKind.TheVariants as kinds
use Rattle.dsl_lexer.specs.declared.word.Word.TheVariants as words
use Rattle.dsl_lexer.specs.declared.sign.Sign.TheVariants as signs
use Rattle.dsl_grammar.specs.Codes.{word_sort, sign_sort}
use Rattle.dsl_rules.specs.Alphabet.{Sort}

-- the operators of the levels 3 to 13, here from 0 on
abbrev pub level_sorts : ℕ → List Sort
level_sorts zero = sign_sort signs.Star ∷ sign_sort signs.Slash ∷ sign_sort signs.Percent ∷ []
level_sorts (suc zero) = sign_sort signs.Plus ∷ sign_sort signs.Minus ∷ []
level_sorts (suc (suc zero)) = sign_sort signs.ShiftLeft ∷ sign_sort signs.ShiftRight ∷ []
level_sorts (suc (suc (suc zero))) = sign_sort signs.Less ∷ sign_sort signs.Greater ∷ sign_sort signs.AtMost ∷ sign_sort signs.AtLeast ∷ []
level_sorts (suc (suc (suc (suc zero)))) = word_sort words.In ∷ sign_sort signs.NotIn ∷ []
level_sorts (suc (suc (suc (suc (suc zero))))) = sign_sort signs.Equal ∷ sign_sort signs.NotEqual ∷ []
level_sorts (suc (suc (suc (suc (suc (suc zero)))))) = sign_sort signs.BitAnd ∷ []
level_sorts (suc (suc (suc (suc (suc (suc (suc zero))))))) = sign_sort signs.BitXor ∷ []
level_sorts (suc (suc (suc (suc (suc (suc (suc (suc zero)))))))) = sign_sort signs.BitOr ∷ []
level_sorts (suc (suc (suc (suc (suc (suc (suc (suc (suc zero))))))))) = sign_sort signs.And ∷ []
level_sorts (suc (suc (suc (suc (suc (suc (suc (suc (suc (suc zero)))))))))) = sign_sort signs.Or ∷ []
level_sorts (suc (suc (suc (suc (suc (suc (suc (suc (suc (suc (suc k))))))))))) = []

abbrev pub binary_of : TokenKind → BinOp
binary_of (kinds.Sign signs.Star) = binary.Mul
binary_of (kinds.Sign signs.Slash) = binary.Div
binary_of (kinds.Sign signs.Percent) = binary.Rem
binary_of (kinds.Sign signs.Plus) = binary.Add
binary_of (kinds.Sign signs.Minus) = binary.Sub
binary_of (kinds.Sign signs.ShiftLeft) = binary.ShiftLeft
binary_of (kinds.Sign signs.ShiftRight) = binary.ShiftRight
binary_of (kinds.Sign signs.Less) = binary.Less
binary_of (kinds.Sign signs.Greater) = binary.Greater
binary_of (kinds.Sign signs.AtMost) = binary.LessEqual
binary_of (kinds.Sign signs.AtLeast) = binary.GreaterEqual
binary_of (kinds.Word words.In) = binary.In
binary_of (kinds.Sign signs.NotIn) = binary.NotIn
binary_of (kinds.Sign signs.Equal) = binary.Equal
binary_of (kinds.Sign signs.NotEqual) = binary.NotEqual
binary_of (kinds.Sign signs.BitAnd) = binary.BitAnd
binary_of (kinds.Sign signs.BitXor) = binary.BitXor
binary_of (kinds.Sign signs.BitOr) = binary.BitOr
binary_of (kinds.Sign signs.And) = binary.And
binary_of k = binary.Or

abbrev pub unary_sorts : List Sort
unary_sorts = sign_sort signs.Not ∷ sign_sort signs.Tilde ∷ sign_sort signs.Plus ∷ sign_sort signs.Minus ∷ []

abbrev pub unary_of : TokenKind → UnOp
unary_of (kinds.Sign signs.Not) = unary.Not
unary_of (kinds.Sign signs.Tilde) = unary.Complement
unary_of (kinds.Sign signs.Plus) = unary.Plus
unary_of k = unary.Minus

abbrev pub set_sorts : List Sort
set_sorts = sign_sort signs.Set ∷ sign_sort signs.AddSet ∷ sign_sort signs.SubtractSet ∷ sign_sort signs.MultiplySet ∷ sign_sort signs.DivideSet ∷ []

abbrev pub set_of : TokenKind → SetOp
set_of (kinds.Sign signs.AddSet) = sets.Add
set_of (kinds.Sign signs.SubtractSet) = sets.Sub
set_of (kinds.Sign signs.MultiplySet) = sets.Mul
set_of (kinds.Sign signs.DivideSet) = sets.Div
set_of k = sets.Plain
