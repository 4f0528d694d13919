-- Targets of assignments, read as expressions.
use Rattle.std.proofs.Common.{◌≡◌, ℕ, List, [], ◌∷◌, ◌++◌, true, false, Some, refl, sym, ap, ◌∙◌, subst, append_assoc}
use Rattle.std.specs.Prelude.{codes}
use Rattle.site_base.specs.declared.place.Place.{Place}
use Rattle.dsl_syntax.specs.Syntax.{Root, at_name, at_this, at_globals, Expression, Steps, no_steps, member_step, index_step}
use Rattle.dsl_lexer.specs.Letters.{goes_on}
use Rattle.dsl_lexer.specs.declared.sign.Sign.{Sign}
use Rattle.dsl_lexer.specs.declared.sign.Sign.TheVariants as signs
use Rattle.dsl_lexer.specs.declared.word.Word.TheVariants as words
use Rattle.dsl_lexer.specs.declared.token_kind.TokenKind.{TokenKind}
use Rattle.dsl_lexer.specs.declared.token_kind.TokenKind.TheVariants as kinds
use Rattle.dsl_rules.specs.Alphabet.{Sort}
use Rattle.dsl_rules.specs.Grammar.{always}
use Rattle.dsl_grammar.specs.Codes.{kind_sort, sign_sort}
use Rattle.dsl_syntax.specs.Lists.{add_member, add_index, join_steps}
use Rattle.dsl_grammar.specs.Grammar.{Expr, Literal, Prim, BegunPrim, Begun, begun, begun_expression, Tail, member_tail, with_tail, tail_sorts, OneTail, Postfix, Prefixed, Unary, Level, Whole, target, target_of, with_member, with_index}
use Rattle.dsl_tree.specs.Spelling.{root_text, steps_text}
use Rattle.dsl_print.specs.Bare.{bare_expression, bare_steps}
use Rattle.dsl_print.proofs.Good.{IsIdent, GoodRoot}
use Rattle.dsl_print.proofs.Printed.{Front, one_of, has_some, Prints, prints_both, prints_made, prints_left, prints_right, prints_ahead_right, prints_here, prints_rec, prints_one}
use Rattle.dsl_print.proofs.Loops.{Further, turns_end, turns_more, prints_loop}
use Rattle.dsl_print.proofs.Spelled.{prints_ident, prints_open_bracket, prints_close_bracket, prints_dot}
use Rattle.dsl_print.proofs.Joins.{bare_add_member, bare_add_index}
use Rattle.dsl_syntax.proofs.SyntaxLists.{join_add_member, join_add_index, join_no_steps}
use Rattle.dsl_print.proofs.Expressions.{IsIndex, level_of}
use Rattle.dsl_print.proofs.Ascii.{ascii_utf8, names_utf8}
use Rattle.dsl_print.proofs.Alike.{Is}

-- an expression that leads to this target but for places
abbrev pub IsTarget : Root → Steps → Expression → Type 0
IsTarget r ss e = (done : Steps) × (target_of e ≡ Some (target r done)) × (bare_steps done ≡ bare_steps ss)

-- an expression that leads there by further steps
abbrev pub LeadsTo : Root → Steps → Steps → Begun → Type 0
LeadsTo r more ss a = (done : Steps) × (target_of (begun_expression a) ≡ Some (target r done)) × (join_steps (bare_steps done) (bare_steps more) ≡ bare_steps ss)

-- further steps behind an expression, which lead to the target
abbrev pub Stepping : List Sign → Root → Steps → List ℕ → List ℕ → Begun → Type 0
Stepping b r ss text rest a = (p : Place) → Further b b false tail_sorts always with_tail OneTail (λ v. IsTarget r ss (begun_expression v)) text rest a p

-- the token of a root
abbrev pub root_kind : Root → TokenKind
root_kind (at_name n) = kinds.Ident n
root_kind at_this = kinds.Word words.This
root_kind at_globals = kinds.Word words.Globals

abbrev pub root_sort : Root → Sort
root_sort r = kind_sort (root_kind r)

-- no name goes on into what follows it
pub steps_apart : (ss : Steps) (rest : List ℕ) → goes_on (steps_text ss ++ 32 ∷ rest) ≡ false
steps_apart no_steps rest = refl
steps_apart (member_step n ss) rest = refl
steps_apart (index_step e ss) rest = refl

-- where a member leads to
member_leads : (r : Root) (n : List ℕ) (more ss : Steps) (a : Begun) (t : Tail) → LeadsTo r (member_step n more) ss a → t ≡ member_tail n → LeadsTo r more ss (with_tail a t)
member_leads r n more ss (begun p e) t (done, leads, i) j = (
  add_member done n,
  ap (λ z. target_of (begun_expression (with_tail (begun p e) z))) j ∙ ap (with_member n) leads,
  ap (λ z. join_steps z (bare_steps more)) (bare_add_member done n) ∙ (join_add_member (bare_steps done) n (bare_steps more) ∙ i),
)

-- where an index leads to
index_leads : (r : Root) (e : Expression) (more ss : Steps) (a : Begun) (t : Tail) → LeadsTo r (index_step e more) ss a → IsIndex e t → LeadsTo r more ss (with_tail a t)
index_leads r e more ss (begun p f) t (done, leads, i) (x, j, k) = (
  add_index done x,
  ap (λ z. target_of (begun_expression (with_tail (begun p f) z))) j ∙ ap (with_index x) leads,
  ap (λ z. join_steps z (bare_steps more)) (bare_add_index done x) ∙ (join_add_index (bare_steps done) (bare_expression x) (bare_steps more)
      ∙ (ap (λ z. join_steps (bare_steps done) (index_step z (bare_steps more))) k ∙ i)),
)

module _ {b : List Sign} where
  -- no more steps
  pub steps_end : (r : Root) (ss : Steps) (rest : List ℕ) (a : Begun) → LeadsTo r no_steps ss a → Stepping b r ss [] rest a
  steps_end r ss rest a (done, leads, i) = turns_end rest a (done, leads, sym (join_no_steps (bare_steps done)) ∙ i)

  -- "." IDENT
  pub steps_member : (r : Root) (n : List ℕ) (more ss : Steps) (y rest : List ℕ) (a : Begun) → LeadsTo r (member_step n more) ss a → IsIdent n → goes_on (y ++ rest) ≡ false
      → ((v : Begun) → LeadsTo r more ss v → Stepping b r ss y rest v) → Stepping b r ss (46 ∷ (n ++ y)) rest a
  unfolding OneTail
  steps_member r n more ss y rest a l i g Q = turns_more {W = λ t. t ≡ member_tail n} (sign_sort signs.Dot) (46 ∷ n) y rest a refl refl refl
      (prints_left (46 ∷ n) _ (prints_made (46 ∷ n) _ (prints_both {X = λ m. m ≡ n} (46 ∷ []) n _ (prints_dot _) (prints_ident n _ i g) (λ v w j k. k)) (λ m j. ap member_tail j)))
      (λ t j. Q (with_tail a t) (member_leads r n more ss a t l j))

  -- "[" expr "]"
  pub steps_index : {o : Front} (r : Root) (e : Expression) (more ss : Steps) (x y rest : List ℕ) (a : Begun) → LeadsTo r (index_step e more) ss a → Prints (b ++ signs.OpenBracket ∷ []) (b ++ signs.OpenBracket ∷ []) Expr (Is e) o x (93 ∷ (y ++ rest))
      → ((v : Begun) → LeadsTo r more ss v → Stepping b r ss y rest v) → Stepping b r ss (91 ∷ (x ++ 93 ∷ y)) rest a
  unfolding OneTail
  steps_index r e more ss x y rest a l P Q = subst (λ z. Stepping b r ss z rest a) (append_assoc (91 ∷ x) (93 ∷ []) y)
      (turns_more {W = IsIndex e} (sign_sort signs.OpenBracket) (91 ∷ (x ++ 93 ∷ [])) y rest a refl refl refl
      (prints_right _ _ (prints_left _ _ (prints_made _ _ (prints_both {X = Is e} (91 ∷ []) (x ++ 93 ∷ []) _ (prints_open_bracket _) (prints_both x (93 ∷ []) _ P (prints_close_bracket _) (λ v w j k. j)) (λ v w j k. k)) (λ v j. (v, refl, j)))))
      (λ t j. Q (with_tail a t) (index_leads r e more ss a t l j)))

  -- a root is a primary
  root_prints : (r : Root) (rest : List ℕ) → GoodRoot r → goes_on rest ≡ false → Prints b b Prim (λ v. target_of v ≡ Some (target r no_steps)) (one_of (root_sort r ∷ [])) (root_text r) rest
  unfolding Prim Literal
  root_prints (at_name n) rest i g = prints_left n rest (prints_one (kinds.Ident n) n rest (refl, i.0, i.1, g) refl (λ p. refl) (names_utf8 n i.0))
  root_prints at_this rest i g = prints_left _ rest (prints_one (kinds.Word words.This) (codes "this") rest (refl, g) refl (λ p. refl) (ascii_utf8 (codes "this") refl))
  root_prints at_globals rest i g = prints_left _ rest (prints_one (kinds.Word words.Globals) (codes "globals") rest (refl, g) refl (λ p. refl) (ascii_utf8 (codes "globals") refl))

  -- a primary with what is behind it is an expression
  expression_of : {V : Expression → Type 0} {o : Front} (x rest : List ℕ) → has_some o ≡ true → Prints b b Postfix (λ v. V (begun_expression v)) o x rest → Prints b b Expr V o x rest
  unfolding Whole Level Unary Prefixed
  expression_of {V} x rest n P = prints_rec {V = V} x rest (prints_ahead_right x rest (prints_made {V = λ v. V (begun_expression v)} x rest
      (level_of 11 0 x rest (prints_here {V = V} x rest n (prints_right x rest (prints_made {X = V} x rest P (λ v i. i))) (λ t v i. i))) (λ v i. i))) (λ v i. i)

  -- a target is an expression
  pub target_prints : (r : Root) (ss : Steps) (y rest : List ℕ) → GoodRoot r → goes_on (y ++ rest) ≡ false → ((v : Begun) → LeadsTo r ss ss v → Stepping b r ss y rest v) → Prints b b Expr (IsTarget r ss) (one_of (root_sort r ∷ [])) (root_text r ++ y) rest
  unfolding Postfix BegunPrim
  target_prints r ss y rest i g Q = expression_of _ rest refl (prints_loop {V = LeadsTo r ss ss} (root_text r) y rest
      (prints_here {V = λ v. target_of v ≡ Some (target r no_steps)} (root_text r) _ refl (root_prints r _ i g) (λ t v j. (no_steps, j, refl))) Q)
