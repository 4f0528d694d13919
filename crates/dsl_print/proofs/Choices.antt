-- Choices, printed from their arms.
use Rattle.std.proofs.Common.{◌≡◌, ℕ, List, [], ◌∷◌, ◌++◌, true, refl, sym, ap, ◌∙◌, subst, append_assoc}
use Rattle.std.specs.Prelude.{codes}
use Rattle.site_base.specs.declared.place.Place.{Place}
use Rattle.dsl_syntax.specs.Syntax.{Expression, Arms, no_arms, more_arms, Statements, no_statements, StatementKind, choose}
use Rattle.dsl_lexer.specs.declared.sign.Sign.{Sign}
use Rattle.dsl_lexer.specs.declared.sign.Sign.TheVariants as signs
use Rattle.dsl_lexer.specs.declared.word.Word.TheVariants as words
use Rattle.dsl_grammar.specs.Codes.{word_sort}
use Rattle.dsl_syntax.specs.Lists.{add_arm, armed, join_arms}
use Rattle.dsl_grammar.specs.Grammar.{Expr, Block, Choice, choice, choice_value, may_else, Otherwise, else_if, else_block, first_arm, add_else, ElseIf, Else, FirstChoice, Choices, IfStatement, Common}
use Rattle.dsl_print.specs.Bare.{bare_expression, bare_arms, bare_statements, bare_statement_kind}
use Rattle.dsl_print.proofs.Printed.{Front, one_of, Prints, prints_both, prints_made, prints_left, prints_right, prints_blank, prints_text}
use Rattle.dsl_print.proofs.Loops.{Further, turns_end, turns_more, turns_last, prints_loop}
use Rattle.dsl_print.proofs.Spelled.{prints_word}
use Rattle.dsl_print.proofs.Joins.{bare_add_arm}
use Rattle.dsl_syntax.proofs.SyntaxLists.{join_add_arm, join_no_arms}
use Rattle.dsl_print.proofs.Statements.{IsArmed, guarded_prints}
use Rattle.dsl_print.proofs.Alike.{Is, IsKind, IsBlock}

-- further arms behind these, which make the choice that is wanted
abbrev Turning : List Sign → StatementKind → List ℕ → List ℕ → Choice → Type 0
Turning b k text rest a = (p : Place) → Further b b true (word_sort words.Else ∷ []) may_else add_else Else (λ v. IsKind k (choice_value v)) text rest a p

abbrev pub Choosing : List Sign → StatementKind → List ℕ → List ℕ → Arms → Type 0
Choosing b k text rest done = Turning b k text rest (choice done no_statements true)

-- these arms and more are the arms that are wanted, but for places
abbrev pub IsBefore : Arms → Arms → Arms → Type 0
IsBefore done more arms = join_arms (bare_arms done) (bare_arms more) ≡ bare_arms arms

-- what stands behind an `else`
abbrev IsElseIf : Expression → Statements → Otherwise → Type 0
IsElseIf e d v = (f : Expression) × (c : Statements) × (v ≡ else_if (armed f c)) × Is e f × IsBlock d c

abbrev IsElse : Statements → Otherwise → Type 0
IsElse d v = (c : Statements) × (v ≡ else_block c) × IsBlock d c

abbrev IsFirst : Expression → Statements → Choice → Type 0
IsFirst e d v = (f : Expression) × (c : Statements) × (v ≡ first_arm (armed f c)) × Is e f × IsBlock d c

-- all arms stand before none
all_before : (done arms : Arms) → IsBefore done no_arms arms → bare_arms done ≡ bare_arms arms
all_before done arms i = sym (join_no_arms (bare_arms done)) ∙ i

-- with one more, one less follows
more_before : (done more arms : Arms) (e f : Expression) (d c : Statements) → IsBefore done (more_arms e d more) arms → Is e f → IsBlock d c → IsBefore (add_arm done f c) more arms
more_before done more arms e f d c i j k =
    ap (λ z. join_arms z (bare_arms more)) (bare_add_arm done f c) ∙ (join_add_arm (bare_arms done) (bare_expression f) (bare_statements c) (bare_arms more)
    ∙ (ap (λ z. join_arms (bare_arms done) (more_arms z (bare_statements c) (bare_arms more))) j ∙ (ap (λ z. join_arms (bare_arms done) (more_arms (bare_expression e) z (bare_arms more))) k ∙ i)))

module _ {b : List Sign} where
  -- no more arms, and no `else`
  pub choice_end : (done arms : Arms) (rest : List ℕ) → IsBefore done no_arms arms → Choosing b (choose arms no_statements) [] rest done
  choice_end done arms rest i = turns_end rest (choice done no_statements true) (ap (λ z. choose z no_statements) (all_before done arms i))

  -- "else" block
  pub choice_else : {o : Front} (done arms : Arms) (d : Statements) (z rest : List ℕ) → IsBefore done no_arms arms → Prints b b Block (IsBlock d) o z rest → Choosing b (choose arms d) (codes " else " ++ z) rest done
  unfolding Else
  choice_else done arms d z rest i P = turns_last {W = IsElse d} (word_sort words.Else) (codes " else " ++ z) rest (choice done no_statements true) refl refl refl
      (prints_blank _ rest (prints_both {X = IsElse d} (codes "else") (32 ∷ z) rest (prints_word words.Else _ refl) (prints_blank z rest (prints_right z rest (prints_made {X = IsElse d} z rest P (λ v j. (v, refl, j))))) (λ v w j k. k)))
      (λ v j. ap (λ t. bare_statement_kind (choice_value (add_else (choice done no_statements true) t))) j.1 ∙ cc (all_before done arms i, j.2))

  -- "else" "if" "(" expr ")" block
  pub choice_more : {o r : Front} (done more arms : Arms) (e : Expression) (c d : Statements) (x z y w rest : List ℕ) → IsBefore done (more_arms e c more) arms
      → Prints (b ++ signs.OpenParen ∷ []) (b ++ signs.OpenParen ∷ []) Expr (Is e) o x (codes ") " ++ (z ++ ((y ++ w) ++ rest))) → Prints b b Block (IsBlock c) r z ((y ++ w) ++ rest)
      → ((again : Arms) → IsBefore again more arms → Choosing b (choose arms d) (y ++ w) rest again)
      → Choosing b (choose arms d) (((codes " else if (" ++ (x ++ (codes ") " ++ z))) ++ y) ++ w) rest done
  unfolding Else ElseIf
  choice_more done more arms e c d x z y w rest i P Q R =
      subst (λ t. Choosing b (choose arms d) t rest done) (sym (append_assoc (codes " else if (" ++ (x ++ (codes ") " ++ z))) y w))
      (turns_more {W = IsElseIf e c} (word_sort words.Else) (codes " else if (" ++ (x ++ (codes ") " ++ z))) (y ++ w) rest (choice done no_statements true) refl refl refl
      (prints_blank _ _ (prints_both {X = IsElseIf e c} (codes "else") (codes " if (" ++ (x ++ (codes ") " ++ z))) _ (prints_word words.Else _ refl)
      (prints_blank _ _ (prints_left _ _ (prints_made {V = IsArmed e c} {X = IsElseIf e c} _ _ (prints_both {X = IsArmed e c} (codes "if") (codes " (" ++ (x ++ (codes ") " ++ z))) _ (prints_word words.If _ refl) (prints_blank _ _ (guarded_prints e c x z _ P Q)) (λ v w j k. k))
      (λ v j. (j.0, j.1, ap else_if j.2, j.3, j.4)))))
      (λ v w j k. k)))
      (λ v j. subst (λ t. Turning b (choose arms d) (y ++ w) rest (add_else (choice done no_statements true) t)) (sym j.2) (R (add_arm done j.0 j.1) (more_before done more arms e j.0 c j.1 i j.3 j.4))))

  -- "if" "(" expr ")" block, and further arms
  pub choose_prints : {o r : Front} (more : Arms) (e : Expression) (c d : Statements) (x z y w rest : List ℕ)
      → Prints (b ++ signs.OpenParen ∷ []) (b ++ signs.OpenParen ∷ []) Expr (Is e) o x (codes ") " ++ (z ++ ((y ++ w) ++ rest))) → Prints b b Block (IsBlock c) r z ((y ++ w) ++ rest)
      → ((again : Arms) → IsBefore again more (more_arms e c more) → Choosing b (choose (more_arms e c more) d) (y ++ w) rest again)
      → Prints b b Common (IsKind (choose (more_arms e c more) d)) (one_of (word_sort words.If ∷ [])) (((codes "if (" ++ (x ++ (codes ") " ++ z))) ++ y) ++ w) rest
  unfolding Common IfStatement Choices FirstChoice
  choose_prints more e c d x z y w rest P Q R =
      prints_text _ _ rest (sym (append_assoc (codes "if (" ++ (x ++ (codes ") " ++ z))) y w))
      (prints_right _ rest (prints_right _ rest (prints_left _ rest (prints_made {V = λ v. IsKind (choose (more_arms e c more) d) (choice_value v)} _ rest
      (prints_loop {V = IsFirst e c} (codes "if (" ++ (x ++ (codes ") " ++ z))) (y ++ w) rest
      (prints_both {X = IsFirst e c} (codes "if") (codes " (" ++ (x ++ (codes ") " ++ z))) _ (prints_word words.If _ refl)
      (prints_blank _ _ (prints_made {V = IsArmed e c} {X = IsFirst e c} _ _ (guarded_prints e c x z _ P Q) (λ v j. (j.0, j.1, ap first_arm j.2, j.3, j.4)))) (λ v w j k. k))
      (λ v j. subst (Turning b (choose (more_arms e c more) d) (y ++ w) rest) (sym j.2) (R (more_arms j.0 j.1 no_arms) (cc (j.3, j.4)))))
      (λ v i. i)))))
