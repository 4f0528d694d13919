-- The statements that may stand in blocks and in bodies, by their first token.
use Rattle.std.proofs.Common.{◌≡◌, ℕ, List, [], ◌∷◌, cond, drop, refl, true}
use Rattle.dsl_syntax.specs.Syntax.{StatementKind, break, continue}
use Rattle.dsl_lexer.specs.declared.token.Token.{Token}
use Rattle.dsl_lexer.specs.declared.word.Word.{Word}
use Rattle.dsl_lexer.specs.declared.word.Word.TheVariants as words
use Rattle.dsl_rules.specs.Alphabet.{at}
use Rattle.dsl_rules.specs.Grammar.{made}
use Rattle.dsl_rules.specs.Reading.{got}
use Rattle.dsl_grammar.specs.Codes.{sorts, word_sort}
use Rattle.dsl_grammar.specs.Grammar.{VarStatement, ImportStatement, IfStatement, Choices, FirstChoice, WhileStatement, ForStatement, ReturnStatement, ThrowStatement, DefineOrSet, Common}
use Rattle.dsl_grammar.specs.Reading.{read_by}
use Rattle.dsl_grammar.specs.Terms.{word}

-- which statement it is
pub read_common : (n : ℕ) (ts : List Token) → read_by n Common ts ≡
    cond (at sorts (word_sort words.Var ∷ []) ts) (read_by n VarStatement ts)
    (cond (at sorts (word_sort words.Import ∷ []) ts) (read_by n ImportStatement ts)
    (cond (at sorts (word_sort words.If ∷ []) ts) (read_by n IfStatement ts)
    (cond (at sorts (word_sort words.While ∷ []) ts) (read_by n WhileStatement ts)
    (cond (at sorts (word_sort words.For ∷ []) ts) (read_by n ForStatement ts)
    (cond (at sorts (word_sort words.Return ∷ []) ts) (read_by n ReturnStatement ts)
    (cond (at sorts (word_sort words.Break ∷ []) ts) (read_by n (made (λ p. break) (word words.Break)) ts)
    (cond (at sorts (word_sort words.Continue ∷ []) ts) (read_by n (made (λ p. continue) (word words.Continue)) ts)
    (cond (at sorts (word_sort words.Throw ∷ []) ts) (read_by n ThrowStatement ts) (read_by n DefineOrSet ts)))))))))
unfolding Common VarStatement ImportStatement IfStatement Choices FirstChoice WhileStatement ForStatement ReturnStatement ThrowStatement
read_common n ts = refl

-- a word alone
pub one_word : (n : ℕ) (w : Word) (k : StatementKind) (ts : List Token) → at sorts (word_sort w ∷ []) ts ≡ true → read_by n (made (λ p. k) (word w)) ts ≡ got k (drop 1 ts)
one_word n w k [] h = absurd cc
one_word n w k (t ∷ ts) h = rw h refl
