-- Assignments, printed from their parts.
use Rattle.std.proofs.Common.{◌≡◌, ℕ, List, [], ◌∷◌, ◌++◌, true, false, cond, Some, None, refl, ap, ◌∙◌, append_assoc}
use Rattle.dsl_syntax.specs.declared.set_op.SetOp.{SetOp}
use Rattle.dsl_syntax.specs.declared.set_op.SetOp.TheVariants as sets
use Rattle.dsl_syntax.specs.Syntax.{Root, at_name, at_this, at_globals, Expression, Steps, no_steps, member_step, index_step, StatementKind, eval, set}
use Rattle.dsl_lexer.specs.Brackets.{keeps}
use Rattle.dsl_lexer.specs.declared.sign.Sign.{Sign}
use Rattle.dsl_lexer.specs.declared.sign.Sign.TheVariants as signs
use Rattle.dsl_lexer.specs.declared.token.Token.{Token}
use Rattle.dsl_lexer.specs.declared.token_kind.TokenKind.TheVariants as kinds
use Rattle.dsl_rules.specs.Alphabet.{same, among}
use Rattle.dsl_rules.specs.Grammar.{one}
use Rattle.dsl_grammar.specs.Codes.{kind_sort, sign_sort}
use Rattle.dsl_grammar.specs.Operators.{set_sorts, set_of}
use Rattle.dsl_grammar.specs.Grammar.{Expr, target, target_of, stepped, Maybe_set, maybe_set, set_value, may_set, evaluated, Setting, setting, assigned, SetTo, SetOrEval, DefineOrSet, Common}
use Rattle.dsl_tree.specs.Operators.{set_text}
use Rattle.dsl_tree.specs.Spelling.{root_text}
use Rattle.dsl_print.specs.Bare.{bare_steps, bare_statement_kind}
use Rattle.dsl_print.proofs.Signs.{set_sign}
use Rattle.dsl_print.proofs.SignTokens.{set_op_token}
use Rattle.dsl_print.proofs.Printed.{Front, one_of, opens, Prints, prints_both, prints_made, prints_ahead_right, prints_here_at, prints_blank, prints_one, prints_text, prints_rest}
use Rattle.dsl_print.proofs.Loops.{turns_last, prints_loop, one_sort}
use Rattle.dsl_print.proofs.Statements.{prints_no_lines, common_of}
use Rattle.dsl_print.proofs.Targets.{IsTarget, root_sort}
use Rattle.dsl_print.proofs.Ascii.{ascii_utf8}
use Rattle.dsl_print.proofs.Alike.{Is, IsKind}

-- whether `this` and `globals` are targets depends on whether there are steps
stepped_alike : (r : Root) (done ss : Steps) → bare_steps done ≡ bare_steps ss → stepped (Some (target r ss)) ≡ Some (target r ss) → stepped (Some (target r done)) ≡ Some (target r done)
stepped_alike (at_name n) done ss i e = refl
stepped_alike at_this no_steps no_steps i e = absurd cc
stepped_alike at_this no_steps (member_step n ss) i e = absurd cc
stepped_alike at_this no_steps (index_step x ss) i e = absurd cc
stepped_alike at_this (member_step n done) ss i e = refl
stepped_alike at_this (index_step x done) ss i e = refl
stepped_alike at_globals no_steps no_steps i e = absurd cc
stepped_alike at_globals no_steps (member_step n ss) i e = absurd cc
stepped_alike at_globals no_steps (index_step x ss) i e = absurd cc
stepped_alike at_globals (member_step n done) ss i e = refl
stepped_alike at_globals (index_step x done) ss i e = refl

-- a root is no parenthesis
root_sign : (r : Root) → same (root_sort r) (sign_sort signs.OpenParen) ≡ false
root_sign (at_name n) = refl
root_sign at_this = refl
root_sign at_globals = refl

-- what may still be an assignment to this target
abbrev MaySet : Root → Steps → Maybe_set → Type 0
MaySet r ss m = (s : StatementKind) × (done : Steps) × (m ≡ maybe_set s (Some (target r done))) × (bare_steps done ≡ bare_steps ss)

-- what something is set to
abbrev IsSetting : SetOp → Expression → Setting → Type 0
IsSetting o e x = (f : Expression) × (x ≡ setting o f) × Is e f

-- a target may be set where it begins with its root
evaluated_may : (r : Root) (ss : Steps) (t : Token) (ts : List Token) (v : Expression) → stepped (Some (target r ss)) ≡ Some (target r ss) → opens (one_of (root_sort r ∷ [])) (t ∷ ts) ≡ true → IsTarget r ss v → MaySet r ss (evaluated t v)
evaluated_may r ss t ts v e o (done, leads, i) = (
  eval v,
  done,
  ap (λ z. maybe_set (eval v) (cond (same z (sign_sort signs.OpenParen)) None (stepped (target_of v)))) (one_sort (kind_sort t.kind) (root_sort r) o)
      ∙ (ap (λ z. maybe_set (eval v) (cond z None (stepped (target_of v)))) (root_sign r) ∙ ap (maybe_set (eval v)) (ap stepped leads ∙ stepped_alike r done ss i e)),
  i,
)

-- the assignment
assigned_is : (r : Root) (ss : Steps) (o : SetOp) (e : Expression) (m : Maybe_set) (x : Setting) → MaySet r ss m → IsSetting o e x → IsKind (set r ss o e) (set_value (assigned m x))
assigned_is r ss o e m x (s, done, i, j) (f, k, l) = ap (λ z. bare_statement_kind (set_value (assigned z x))) i ∙ (ap (λ z. bare_statement_kind (set_value (assigned (maybe_set s (Some (target r done))) z))) k ∙ cc (j, l))

-- each operator is one of those that set
set_among : (o : SetOp) → among (sign_sort (set_sign o)) set_sorts ≡ true
set_among sets.Plain = refl
set_among sets.Add = refl
set_among sets.Sub = refl
set_among sets.Mul = refl
set_among sets.Div = refl

module _ {b : List Sign} where
  -- an operator that sets
  operator_prints : (o : SetOp) (rest : List ℕ) → Prints b b (one set_sorts (λ t. set_of t.kind)) (λ v. v ≡ o) (one_of (sign_sort (set_sign o) ∷ [])) (set_text o) (32 ∷ rest)
  operator_prints sets.Plain rest = prints_one (kinds.Sign signs.Set) (set_text sets.Plain) (32 ∷ rest) (set_op_token (keeps b) sets.Plain rest) refl (λ p. refl) (ascii_utf8 (set_text sets.Plain) refl)
  operator_prints sets.Add rest = prints_one (kinds.Sign signs.AddSet) (set_text sets.Add) (32 ∷ rest) (set_op_token (keeps b) sets.Add rest) refl (λ p. refl) (ascii_utf8 (set_text sets.Add) refl)
  operator_prints sets.Sub rest = prints_one (kinds.Sign signs.SubtractSet) (set_text sets.Sub) (32 ∷ rest) (set_op_token (keeps b) sets.Sub rest) refl (λ p. refl) (ascii_utf8 (set_text sets.Sub) refl)
  operator_prints sets.Mul rest = prints_one (kinds.Sign signs.MultiplySet) (set_text sets.Mul) (32 ∷ rest) (set_op_token (keeps b) sets.Mul rest) refl (λ p. refl) (ascii_utf8 (set_text sets.Mul) refl)
  operator_prints sets.Div rest = prints_one (kinds.Sign signs.DivideSet) (set_text sets.Div) (32 ∷ rest) (set_op_token (keeps b) sets.Div rest) refl (λ p. refl) (ascii_utf8 (set_text sets.Div) refl)

  -- setop nl expr
  setting_prints : {r : Front} (o : SetOp) (e : Expression) (x rest : List ℕ) → Prints b b Expr (Is e) r x rest → Prints b b SetTo (IsSetting o e) (one_of (sign_sort (set_sign o) ∷ [])) (set_text o ++ 32 ∷ x) rest
  unfolding SetTo
  setting_prints o e x rest P = prints_both {V = λ v. v ≡ o} (set_text o) (32 ∷ x) rest (operator_prints o (x ++ rest)) (prints_blank x rest (prints_both {X = Is e} [] x rest (prints_no_lines _) P (λ v w i j. j))) (λ v w i j. (w, ap (λ z. setting z w) i, j))

  -- target setop nl expr
  pub set_prints : {q : Front} (r : Root) (ss : Steps) (o : SetOp) (e : Expression) (y x rest : List ℕ) → stepped (Some (target r ss)) ≡ Some (target r ss)
      → Prints b b Expr (IsTarget r ss) (one_of (root_sort r ∷ [])) (root_text r ++ y) (32 ∷ (set_text o ++ 32 ∷ (x ++ rest))) → Prints b b Expr (Is e) q x rest
      → Prints b b Common (IsKind (set r ss o e)) (one_of (root_sort r ∷ [])) (root_text r ++ (y ++ 32 ∷ (set_text o ++ 32 ∷ x))) rest
  unfolding DefineOrSet SetOrEval
  set_prints r ss o e y x rest s P Q = prints_text _ _ rest (append_assoc (root_text r) y (32 ∷ (set_text o ++ 32 ∷ x)))
      (common_of _ rest (prints_ahead_right _ rest (prints_made {V = λ m. IsKind (set r ss o e) (set_value m)} _ rest
      (prints_loop {V = MaySet r ss} (root_text r ++ y) (32 ∷ (set_text o ++ 32 ∷ x)) rest (prints_here_at _ _ refl (prints_rest (root_text r ++ y) (append_assoc (32 ∷ set_text o) (32 ∷ x) rest) P) (λ t ts v i j. evaluated_may r ss t ts v s i j))
      (λ m i. turns_last {W = IsSetting o e} (sign_sort (set_sign o)) (32 ∷ (set_text o ++ 32 ∷ x)) rest m (set_among o) (ap (λ z. may_set z (sign_sort (set_sign o))) i.2) refl (prints_blank _ rest (setting_prints o e x rest Q))
      (λ v j. assigned_is r ss o e m v i j)))
      (λ v i. i))))
