-- Objects and templates, constants, and rules of bodies, printed from their parts.
use Rattle.std.proofs.Common.{◌≡◌, ℕ, List, [], ◌∷◌, ◌++◌, refl, ap, append_assoc}
use Rattle.std.specs.Prelude.{codes}
use Rattle.dsl_syntax.specs.Syntax.{Expression, Uses, Statements, object, template, assign, ignore, const}
use Rattle.dsl_lexer.specs.declared.sign.Sign.{Sign}
use Rattle.dsl_lexer.specs.declared.word.Word.TheVariants as words
use Rattle.dsl_rules.specs.Grammar.{Pair, pair, left, right}
use Rattle.dsl_grammar.specs.Codes.{word_sort, ident_sort}
use Rattle.dsl_grammar.specs.Terms.{Rule, three}
use Rattle.dsl_grammar.specs.Grammar.{Expr, MaybeUse, Body, Bodied, bodied, UseBody, Named, named, NamedBody, object_named, template_named, ObjectStatement, TemplateStatement, ConstStatement, Kind, AssignStatement, IgnoreStatement, BodyKind}
use Rattle.dsl_print.proofs.Good.{IsIdent}
use Rattle.dsl_print.proofs.Keeping.{OfPair}
use Rattle.dsl_print.proofs.Printed.{Front, one_of, Prints, prints_both, prints_made, prints_left, prints_right, prints_blank, prints_rest}
use Rattle.dsl_print.proofs.Spelled.{prints_word, prints_ident}
use Rattle.dsl_print.proofs.Statements.{prints_given}
use Rattle.dsl_print.proofs.Alike.{Is, IsUses, IsKind, IsBlock}

-- three, one after the other
pub prints_three : {A B C D : Type 0} {a b c d : List Sign} {g : Rule A} {h : Rule B} {i : Rule C} {U : A → Type 0} {V : B → Type 0} {W : C → Type 0} {X : D → Type 0} {o r s : Front} (f : A → B → C → D) (x y z rest : List ℕ)
    → Prints a b g U o x (y ++ (z ++ rest)) → Prints b c h V r y (z ++ rest) → Prints c d i W s z rest → ((u : A) (v : B) (w : C) → U u → V v → W w → X (f u v w)) → Prints a d (three f g h i) X o (x ++ (y ++ z)) rest
prints_three {A} {B} {C} {U = U} {V} {W} {X} f x y z rest P Q R k =
    prints_both {X = X} x (y ++ z) rest (prints_rest x (append_assoc y z rest) P) (prints_both {X = OfPair V W} y z rest Q R (λ v w j l. (j, l))) by
  where
    by : (u : A) (p : Pair B C) → U u → OfPair V W p → X (f u (left p) (right p))
    by u (pair v w) j l = k u v w j l.0 l.1

-- a body with what it uses, and with a name before it, that are these but for places
abbrev pub IsBodied : Uses → Statements → Bodied → Type 0
IsBodied us d (bodied vs c) = IsUses us vs × IsBlock d c

abbrev pub IsNamed : List ℕ → Expression → Uses → Statements → Named → Type 0
IsNamed t e us d (named s f b) = (s ≡ t) × Is e f × IsBodied us d b

object_is : (t : List ℕ) (e : Expression) (us : Uses) (d : Statements) (n : Named) → IsNamed t e us d n → IsKind (object t e us d) (object_named n)
object_is t e us d (named s f (bodied vs c)) (i, j, (k, l)) = cc

template_is : (t : List ℕ) (e : Expression) (us : Uses) (d : Statements) (n : Named) → IsNamed t e us d n → IsKind (template t e us d) (template_named n)
template_is t e us d (named s f (bodied vs c)) (i, j, (k, l)) = cc

module _ {b : List Sign} where
  -- [use] body
  pub use_body_prints : {o r : Front} (us : Uses) (d : Statements) (y z rest : List ℕ) → Prints b b MaybeUse (IsUses us) o y (32 ∷ (z ++ rest)) → Prints b b Body (IsBlock d) r z rest → Prints b b UseBody (IsBodied us d) o (y ++ 32 ∷ z) rest
  unfolding UseBody
  use_body_prints us d y z rest P Q = prints_both y (32 ∷ z) rest P (prints_blank z rest Q) (λ v w i j. (i, j))

  -- IDENT expr [use] body
  named_prints : {o r s : Front} (t : List ℕ) (e : Expression) (us : Uses) (d : Statements) (x y z rest : List ℕ) → IsIdent t → Prints b b Expr (Is e) o x (y ++ 32 ∷ (z ++ rest)) → Prints b b MaybeUse (IsUses us) r y (32 ∷ (z ++ rest)) → Prints b b Body (IsBlock d) s z rest
      → Prints b b NamedBody (IsNamed t e us d) (one_of (ident_sort ∷ [])) (t ++ 32 ∷ (x ++ (y ++ 32 ∷ z))) rest
  unfolding NamedBody
  named_prints t e us d x y z rest i P Q R = prints_three named t (32 ∷ x) (y ++ 32 ∷ z) rest (prints_ident t _ i refl) (prints_blank x _ (prints_rest x (append_assoc y (32 ∷ z) rest) P)) (use_body_prints us d y z rest Q R) (λ u v w j k l. (j, k, l))

  -- "object" IDENT expr [use] body
  pub object_prints : {o r s : Front} (t : List ℕ) (e : Expression) (us : Uses) (d : Statements) (x y z rest : List ℕ) → IsIdent t → Prints b b Expr (Is e) o x (y ++ 32 ∷ (z ++ rest)) → Prints b b MaybeUse (IsUses us) r y (32 ∷ (z ++ rest)) → Prints b b Body (IsBlock d) s z rest
      → Prints b b Kind (IsKind (object t e us d)) (one_of (word_sort words.Object ∷ [])) (codes "object " ++ (t ++ 32 ∷ (x ++ (y ++ 32 ∷ z)))) rest
  unfolding Kind ObjectStatement
  object_prints t e us d x y z rest i P Q R = prints_left _ rest (prints_both {X = IsKind (object t e us d)} (codes "object") (32 ∷ (t ++ 32 ∷ (x ++ (y ++ 32 ∷ z)))) rest (prints_word words.Object _ refl)
      (prints_blank _ rest (prints_made _ rest (named_prints t e us d x y z rest i P Q R) (object_is t e us d))) (λ v w j k. k))

  -- "template" IDENT expr [use] body
  pub template_prints : {o r s : Front} (t : List ℕ) (e : Expression) (us : Uses) (d : Statements) (x y z rest : List ℕ) → IsIdent t → Prints b b Expr (Is e) o x (y ++ 32 ∷ (z ++ rest)) → Prints b b MaybeUse (IsUses us) r y (32 ∷ (z ++ rest)) → Prints b b Body (IsBlock d) s z rest
      → Prints b b Kind (IsKind (template t e us d)) (one_of (word_sort words.Template ∷ [])) (codes "template " ++ (t ++ 32 ∷ (x ++ (y ++ 32 ∷ z)))) rest
  unfolding Kind TemplateStatement
  template_prints t e us d x y z rest i P Q R = prints_right _ rest (prints_left _ rest (prints_both {X = IsKind (template t e us d)} (codes "template") (32 ∷ (t ++ 32 ∷ (x ++ (y ++ 32 ∷ z)))) rest (prints_word words.Template _ refl)
      (prints_blank _ rest (prints_made _ rest (named_prints t e us d x y z rest i P Q R) (template_is t e us d))) (λ v w j k. k)))

  -- "const" IDENT "=" nl expr
  pub const_prints : {o : Front} (n : List ℕ) (e : Expression) (x rest : List ℕ) → IsIdent n → Prints b b Expr (Is e) o x rest
      → Prints b b Kind (IsKind (const n e)) (one_of (word_sort words.Const ∷ [])) (codes "const " ++ (n ++ (codes " = " ++ x))) rest
  unfolding Kind ConstStatement
  const_prints n e x rest i P = prints_right _ rest (prints_right _ rest (prints_right _ rest (prints_left _ rest (prints_both {X = IsKind (const n e)} (codes "const") (32 ∷ (n ++ (codes " = " ++ x))) rest (prints_word words.Const _ refl)
      (prints_blank _ rest (prints_both n (codes " = " ++ x) rest (prints_ident n _ i refl) (prints_blank _ rest (prints_given x rest P)) (λ v w j k. cc))) (λ v w j k. k)))))

  -- "assign" "where" expr
  pub assign_prints : {o : Front} (e : Expression) (x rest : List ℕ) → Prints b b Expr (Is e) o x rest → Prints b b BodyKind (IsKind (assign e)) (one_of (word_sort words.Assign ∷ [])) (codes "assign where " ++ x) rest
  unfolding BodyKind AssignStatement
  assign_prints e x rest P = prints_left _ rest (prints_both {X = IsKind (assign e)} (codes "assign") (codes " where " ++ x) rest (prints_word words.Assign _ refl)
      (prints_blank _ rest (prints_both {X = IsKind (assign e)} (codes "where") (32 ∷ x) rest (prints_word words.Where _ refl) (prints_blank x rest (prints_made x rest P (λ v i. ap assign i))) (λ v w i j. j))) (λ v w i j. j))

  -- "ignore" "where" expr
  pub ignore_prints : {o : Front} (e : Expression) (x rest : List ℕ) → Prints b b Expr (Is e) o x rest → Prints b b BodyKind (IsKind (ignore e)) (one_of (word_sort words.Ignore ∷ [])) (codes "ignore where " ++ x) rest
  unfolding BodyKind IgnoreStatement
  ignore_prints e x rest P = prints_right _ rest (prints_left _ rest (prints_both {X = IsKind (ignore e)} (codes "ignore") (codes " where " ++ x) rest (prints_word words.Ignore _ refl)
      (prints_blank _ rest (prints_both {X = IsKind (ignore e)} (codes "where") (32 ∷ x) rest (prints_word words.Where _ refl) (prints_blank x rest (prints_made x rest P (λ v i. ap ignore i))) (λ v w i j. j))) (λ v w i j. j)))
