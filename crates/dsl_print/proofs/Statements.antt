-- Statements that may stand in any place, printed from their parts.
use Rattle.std.proofs.Common.{◌≡◌, ℕ, List, [], ◌∷◌, ◌++◌, true, false, refl, ap, ◌∙◌, append_assoc}
use Rattle.std.specs.Prelude.{codes}
use Rattle.dsl_syntax.specs.Syntax.{Expression, no_expression, some_expression, Loop, Function, Statements, StatementKind, import, throw, eval, var, while, for, define, return, break, continue}
use Rattle.dsl_lexer.specs.Letters.{goes_on}
use Rattle.dsl_lexer.specs.declared.sign.Sign.{Sign}
use Rattle.dsl_lexer.specs.declared.sign.Sign.TheVariants as signs
use Rattle.dsl_lexer.specs.declared.word.Word.TheVariants as words
use Rattle.dsl_grammar.specs.Codes.{sign_sort, word_sort}
use Rattle.dsl_grammar.specs.Terms.{sign, behind, nl}
use Rattle.dsl_grammar.specs.Grammar.{Expr, Block, Func, LoopHead, Slot, Guarded, while_armed, VarStatement, ImportStatement, ThrowStatement, WhileStatement, ForStatement, Define, ReturnStatement, DefineOrSet, set_value, SetOrEval, Common}
use Rattle.dsl_syntax.specs.Lists.{Armed, armed}
use Rattle.dsl_print.specs.Bare.{bare_statement_kind}
use Rattle.dsl_print.proofs.Good.{IsIdent}
use Rattle.dsl_print.proofs.Printed.{Front, anything, one_of, has_some, Prints, prints_both, prints_made, prints_left, prints_right, prints_ahead_left, prints_ahead_right, prints_here, prints_blank, prints_empty, prints_text}
use Rattle.dsl_print.proofs.Loops.{prints_once}
use Rattle.dsl_print.proofs.Spelled.{prints_word, prints_ident, prints_open_paren, prints_close_paren, prints_set}
use Rattle.dsl_print.proofs.Alike.{Is, IsMaybe, IsFunction, IsLoop, IsKind, IsBlock}

-- Parts of statements that are these but for places.

abbrev pub IsArmed : Expression → Statements → Armed → Type 0
IsArmed e d v = (f : Expression) × (c : Statements) × (v ≡ armed f c) × Is e f × IsBlock d c

module _ {b : List Sign} where
  -- no newlines
  pub prints_no_lines : (rest : List ℕ) → Prints b b nl (λ n. Unit {0}) anything [] rest
  prints_no_lines rest = prints_once [] rest (prints_empty rest tt)

  -- "=" nl expr
  pub prints_given : {V : Expression → Type 0} {o : Front} (x rest : List ℕ) → Prints b b Expr V o x rest → Prints b b (behind (sign signs.Set) (behind nl Expr)) V (one_of (sign_sort signs.Set ∷ [])) (codes "= " ++ x) rest
  prints_given {V = V} x rest P = prints_both {X = V} (61 ∷ []) (32 ∷ x) rest (prints_set _) (prints_blank x rest (prints_both {X = V} [] x rest (prints_no_lines _) P (λ v w i j. j))) (λ v w i j. j)

  -- "(" expr ")" block
  pub guarded_prints : {o r : Front} (e : Expression) (d : Statements) (x z rest : List ℕ) → Prints (b ++ signs.OpenParen ∷ []) (b ++ signs.OpenParen ∷ []) Expr (Is e) o x (codes ") " ++ (z ++ rest)) → Prints b b Block (IsBlock d) r z rest
      → Prints b b Guarded (IsArmed e d) (one_of (sign_sort signs.OpenParen ∷ [])) (40 ∷ (x ++ (codes ") " ++ z))) rest
  unfolding Guarded
  guarded_prints e d x z rest P Q = prints_text _ _ rest (append_assoc (40 ∷ x) (41 ∷ []) (32 ∷ z))
      (prints_both {V = Is e} (40 ∷ (x ++ 41 ∷ [])) (32 ∷ z) rest
      (prints_both {X = Is e} (40 ∷ []) (x ++ 41 ∷ []) ((32 ∷ z) ++ rest) (prints_open_paren _) (prints_both x (41 ∷ []) _ P (prints_close_paren _) (λ v w i j. i)) (λ v w i j. j))
      (prints_blank z rest Q) (λ v w i j. (v, w, refl, i, j)))

  -- the last of the common statements
  pub common_of : {V : StatementKind → Type 0} {o : Front} (x rest : List ℕ) → Prints b b DefineOrSet V o x rest → Prints b b Common V o x rest
  unfolding Common
  common_of x rest P = prints_right x rest (prints_right x rest (prints_right x rest (prints_right x rest (prints_right x rest (prints_right x rest (prints_right x rest (prints_right x rest (prints_right x rest P))))))))

  -- "var" IDENT
  pub var_none_prints : (n rest : List ℕ) → IsIdent n → Prints b b Common (IsKind (var n no_expression)) (one_of (word_sort words.Var ∷ [])) (codes "var " ++ (n ++ [])) (10 ∷ rest)
  unfolding Common VarStatement
  var_none_prints n rest i = prints_left _ _ (prints_both {X = IsKind (var n no_expression)} (codes "var") (32 ∷ (n ++ [])) (10 ∷ rest) (prints_word words.Var _ refl)
      (prints_blank _ _ (prints_both n [] _ (prints_ident n _ i refl) (prints_right [] _ (prints_empty {V = IsMaybe no_expression} _ refl)) (λ v w j k. cc))) (λ v w j k. k))

  -- "var" IDENT "=" nl expr
  pub var_some_prints : {o : Front} (n : List ℕ) (e : Expression) (x rest : List ℕ) → IsIdent n → Prints b b Expr (Is e) o x rest
      → Prints b b Common (IsKind (var n (some_expression e))) (one_of (word_sort words.Var ∷ [])) (codes "var " ++ (n ++ (codes " = " ++ x))) rest
  unfolding Common VarStatement
  var_some_prints n e x rest i P = prints_left _ _ (prints_both {X = IsKind (var n (some_expression e))} (codes "var") (32 ∷ (n ++ (codes " = " ++ x))) rest (prints_word words.Var _ refl)
      (prints_blank _ _ (prints_both n (codes " = " ++ x) rest (prints_ident n _ i refl) (prints_left _ _ (prints_made {X = IsMaybe (some_expression e)} _ _ (prints_blank _ _ (prints_given x rest P)) (λ v j. ap some_expression j))) (λ v w j k. cc))) (λ v w j k. k))

  -- "import" expr
  pub import_prints : {o : Front} (e : Expression) (x rest : List ℕ) → Prints b b Expr (Is e) o x rest → Prints b b Common (IsKind (import e)) (one_of (word_sort words.Import ∷ [])) (codes "import " ++ x) rest
  unfolding Common ImportStatement
  import_prints e x rest P = prints_right _ _ (prints_left _ _ (prints_both {X = IsKind (import e)} (codes "import") (32 ∷ x) rest (prints_word words.Import _ refl) (prints_blank x rest (prints_made x rest P (λ v i. ap import i))) (λ v w i j. j)))

  -- "throw" expr
  pub throw_prints : {o : Front} (e : Expression) (x rest : List ℕ) → Prints b b Expr (Is e) o x rest → Prints b b Common (IsKind (throw e)) (one_of (word_sort words.Throw ∷ [])) (codes "throw " ++ x) rest
  unfolding Common ThrowStatement
  throw_prints e x rest P = prints_right _ _ (prints_right _ _ (prints_right _ _ (prints_right _ _ (prints_right _ _ (prints_right _ _ (prints_right _ _ (prints_right _ _ (prints_left _ _
      (prints_both {X = IsKind (throw e)} (codes "throw") (32 ∷ x) rest (prints_word words.Throw _ refl) (prints_blank x rest (prints_made x rest P (λ v i. ap throw i))) (λ v w i j. j))))))))))

  -- expr
  pub eval_prints : {o : Front} (e : Expression) (x rest : List ℕ) → has_some o ≡ true → Prints b b Expr (Is e) o x rest → Prints b b Common (IsKind (eval e)) o x rest
  unfolding DefineOrSet SetOrEval
  eval_prints e x rest n P = common_of x rest (prints_ahead_right x rest (prints_made {V = λ m. IsKind (eval e) (set_value m)} x rest (prints_once x rest (prints_here x rest n P (λ t v i. ap eval i))) (λ v i. i)))

  -- "while" "(" expr ")" block
  pub while_prints : {o r : Front} (e : Expression) (d : Statements) (x z rest : List ℕ) → Prints (b ++ signs.OpenParen ∷ []) (b ++ signs.OpenParen ∷ []) Expr (Is e) o x (codes ") " ++ (z ++ rest)) → Prints b b Block (IsBlock d) r z rest
      → Prints b b Common (IsKind (while e d)) (one_of (word_sort words.While ∷ [])) (codes "while (" ++ (x ++ (codes ") " ++ z))) rest
  unfolding Common WhileStatement
  while_prints e d x z rest P Q = prints_right _ _ (prints_right _ _ (prints_right _ _ (prints_left _ _ (prints_both {X = IsKind (while e d)} (codes "while") (codes " (" ++ (x ++ (codes ") " ++ z))) rest (prints_word words.While _ refl)
      (prints_blank _ _ (prints_made _ _ (guarded_prints e d x z rest P Q) (λ v i. ap (λ a. bare_statement_kind (while_armed a)) i.2 ∙ cc (i.3, i.4)))) (λ v w i j. j)))))

  -- "for" loop block
  pub for_prints : {o r : Front} (l : Loop) (d : Statements) (x z rest : List ℕ) → Prints b b LoopHead (IsLoop l) o x (32 ∷ (z ++ rest)) → Prints b b Block (IsBlock d) r z rest
      → Prints b b Common (IsKind (for l d)) (one_of (word_sort words.For ∷ [])) (codes "for " ++ (x ++ 32 ∷ z)) rest
  unfolding Common ForStatement
  for_prints l d x z rest P Q = prints_right _ _ (prints_right _ _ (prints_right _ _ (prints_right _ _ (prints_left _ _ (prints_both {X = IsKind (for l d)} (codes "for") (32 ∷ (x ++ 32 ∷ z)) rest (prints_word words.For _ refl)
      (prints_blank _ _ (prints_both x (32 ∷ z) rest P (prints_blank z rest Q) (λ v w i j. cc))) (λ v w i j. j))))))

  -- "return"
  pub return_none_prints : (rest : List ℕ) → Prints b b Common (IsKind (return no_expression)) (one_of (word_sort words.Return ∷ [])) (codes "return") (10 ∷ rest)
  unfolding Common ReturnStatement Slot
  return_none_prints rest = prints_right _ _ (prints_right _ _ (prints_right _ _ (prints_right _ _ (prints_right _ _ (prints_left _ _ (prints_both {X = IsKind (return no_expression)} (codes "return") [] (10 ∷ rest) (prints_word words.Return _ refl)
      (prints_made [] _ (prints_right [] _ (prints_empty {V = IsMaybe no_expression} _ refl)) (λ v i. ap return i)) (λ v w i j. j)))))))

  -- "return" expr
  pub return_some_prints : {o : Front} (e : Expression) (x rest : List ℕ) → Prints b b Expr (Is e) o x rest → Prints b b Common (IsKind (return (some_expression e))) (one_of (word_sort words.Return ∷ [])) (codes "return " ++ x) rest
  unfolding Common ReturnStatement Slot
  return_some_prints e x rest P = prints_right _ _ (prints_right _ _ (prints_right _ _ (prints_right _ _ (prints_right _ _ (prints_left _ _ (prints_both {X = IsKind (return (some_expression e))} (codes "return") (32 ∷ x) rest (prints_word words.Return _ refl)
      (prints_blank _ _ (prints_made x _ (prints_left x _ (prints_made {X = IsMaybe (some_expression e)} x _ P (λ v i. ap some_expression i))) (λ v i. ap return i))) (λ v w i j. j)))))))

  -- "break"
  pub break_prints : (rest : List ℕ) → Prints b b Common (IsKind break) (one_of (word_sort words.Break ∷ [])) (codes "break") (10 ∷ rest)
  unfolding Common
  break_prints rest = prints_right _ _ (prints_right _ _ (prints_right _ _ (prints_right _ _ (prints_right _ _ (prints_right _ _ (prints_left _ _ (prints_made (codes "break") _ (prints_word words.Break _ refl) (λ v i. refl))))))))

  -- "continue"
  pub continue_prints : (rest : List ℕ) → Prints b b Common (IsKind continue) (one_of (word_sort words.Continue ∷ [])) (codes "continue") (10 ∷ rest)
  unfolding Common
  continue_prints rest = prints_right _ _ (prints_right _ _ (prints_right _ _ (prints_right _ _ (prints_right _ _ (prints_right _ _ (prints_right _ _ (prints_left _ _ (prints_made (codes "continue") _ (prints_word words.Continue _ refl) (λ v i. refl)))))))))

  -- "function" IDENT params [use] block
  pub define_prints : {o : Front} (n : List ℕ) (f : Function) (y rest : List ℕ) → IsIdent n → goes_on (y ++ rest) ≡ false → Prints b b Func (IsFunction f) o y rest
      → Prints b b Common (IsKind (define n f)) (one_of (word_sort words.Function ∷ [])) (codes "function " ++ (n ++ y)) rest
  unfolding DefineOrSet Define
  define_prints n f y rest i g P = common_of _ rest (prints_ahead_left _ rest (prints_both {X = IsKind (define n f)} (codes "function") (32 ∷ (n ++ y)) rest (prints_word words.Function _ refl)
      (prints_blank _ _ (prints_both n y rest (prints_ident n _ i g) P (λ v w j k. cc))) (λ v w j k. k)))
