-- Productions of expressions, printed from their parts.
use Rattle.std.proofs.Common.{◌≡◌, ℕ, zero, suc, List, [], ◌∷◌, ◌++◌, true, false, refl, ap, ◌∙◌, append_assoc}
use Rattle.site_base.specs.declared.place.Place.{Place}
use Rattle.dsl_syntax.specs.Syntax.{Expression, expression, ExpressionKind, Expressions, member, index, call}
use Rattle.dsl_lexer.specs.declared.sign.Sign.{Sign}
use Rattle.dsl_lexer.specs.declared.sign.Sign.TheVariants as signs
use Rattle.dsl_lexer.specs.Brackets.{keeps, opened}
use Rattle.dsl_lexer.specs.Letters.{goes_on}
use Rattle.dsl_lexer.specs.Tokens.{IsToken}
use Rattle.dsl_lexer.specs.declared.token_kind.TokenKind.{TokenKind}
use Rattle.std.specs.Str.{IsUtf8}
use Rattle.dsl_rules.specs.Alphabet.{among}
use Rattle.dsl_grammar.specs.Codes.{kind_sort, sign_sort}
use Rattle.dsl_grammar.specs.Grammar.{Literal, literal_sorts, literal_kind, Whole, Prim, Paren, Postfix, BegunPrim, OneTail, Tail, member_tail, index_tail, call_tail, with_tail, Unary, Prefixed, Level, Begun, begun, begun_expression}
use Rattle.dsl_print.specs.Bare.{bare_expression, bare_expression_kind, bare_expressions, nowhere}
use Rattle.dsl_print.proofs.Good.{IsIdent}
use Rattle.dsl_print.proofs.Printed.{Front, one_of, has_some, Prints, prints_both, prints_made, prints_left, prints_right, prints_ahead_right, prints_here, prints_rec, prints_rest, prints_one, prints_brackets}
use Rattle.dsl_print.proofs.Loops.{turns_last, prints_loop, prints_once, prints_chain}
use Rattle.dsl_print.proofs.Spelled.{prints_ident, prints_open_paren, prints_close_paren, prints_open_bracket, prints_close_bracket, prints_dot}
use Rattle.dsl_print.proofs.Alike.{Is, IsBegun}

-- what becomes of an expression by a tail

pub member_is : (a : Begun) (t : Tail) (e : Expression) (q : Place) (n : List ℕ) → IsBegun e a → t ≡ member_tail n → IsBegun (expression q (member e n)) (with_tail a t)
member_is (begun p f) t e q n ia it = ap (λ z. bare_expression (begun_expression (with_tail (begun p f) z))) it ∙ ap (λ z. expression nowhere (member z n)) ia

abbrev pub IsIndex : Expression → Tail → Type 0
IsIndex i t = (j : Expression) × (t ≡ index_tail j) × Is i j

pub index_is : (a : Begun) (t : Tail) (e i : Expression) (q : Place) → IsBegun e a → IsIndex i t → IsBegun (expression q (index e i)) (with_tail a t)
index_is (begun p f) t e i q ia (j, it, ij) = ap (λ z. bare_expression (begun_expression (with_tail (begun p f) z))) it ∙ (ap (λ z. expression nowhere (index z (bare_expression j))) ia ∙ ap (λ z. expression nowhere (index (bare_expression e) z)) ij)

abbrev pub IsCall : Expressions → Tail → Type 0
IsCall es t = (fs : Expressions) × (t ≡ call_tail fs) × (bare_expressions fs ≡ bare_expressions es)

pub call_is : (a : Begun) (t : Tail) (e : Expression) (es : Expressions) (q : Place) → IsBegun e a → IsCall es t → IsBegun (expression q (call e es)) (with_tail a t)
call_is (begun p f) t e es q ia (fs, it, is) = ap (λ z. bare_expression (begun_expression (with_tail (begun p f) z))) it ∙ (ap (λ z. expression nowhere (call z (bare_expressions fs))) ia ∙ ap (λ z. expression nowhere (call (bare_expression e) z)) is)

-- so many levels above one
abbrev pub raised : ℕ → ℕ → ℕ
raised zero k = k
raised (suc n) k = suc (raised n k)

module _ {b : List Sign} where
  -- "(" expr ")"
  pub paren_prints : {V : Expression → Type 0} {o : Front} (x rest : List ℕ) → Prints (b ++ signs.OpenParen ∷ []) (b ++ signs.OpenParen ∷ []) Whole V o x (41 ∷ rest) → Prints b b Prim V (one_of (sign_sort signs.OpenParen ∷ [])) (40 ∷ (x ++ 41 ∷ [])) rest
  unfolding Prim Paren
  paren_prints x rest P = prints_right _ rest (prints_left _ rest (prints_both (40 ∷ []) (x ++ 41 ∷ []) rest (prints_open_paren _) (prints_both x (41 ∷ []) rest (prints_rec x (41 ∷ rest) P (λ v i. i)) (prints_close_paren rest) (λ v w i j. i)) (λ v w i j. j)))

  -- a primary is an operand with no operator, and an expression of the first level
  pub postfix_of : {o : Front} (e : Expression) (x rest : List ℕ) → has_some o ≡ true → Prints b b Prim (Is e) o x rest → Prints b b Postfix (IsBegun e) o x rest
  unfolding Postfix BegunPrim
  postfix_of e x rest n P = prints_once x rest (prints_here x rest n P (λ t v i. i))

  pub unary_of : {o : Front} (e : Expression) (x rest : List ℕ) → has_some o ≡ true → Prints b b Postfix (IsBegun e) o x rest → Prints b b (Level 0) (IsBegun e) o x rest
  unfolding Level Unary Prefixed
  unary_of e x rest n P = prints_here x rest n (prints_right x rest (prints_made x rest P (λ v i. i))) (λ t v i. i)

  pub level_up : {V : Begun → Type 0} {o : Front} (k : ℕ) (x rest : List ℕ) → Prints b b (Level k) V o x rest → Prints b b (Level (suc k)) V o x rest
  unfolding Level
  level_up k x rest P = prints_chain x rest (prints_once x rest P)

  pub level_of : {V : Begun → Type 0} {o : Front} (n k : ℕ) (x rest : List ℕ) → Prints b b (Level k) V o x rest → Prints b b (Level (raised n k)) V o x rest
  level_of zero k x rest P = P
  level_of (suc n) k x rest P = level_up (raised n k) x rest (level_of n k x rest P)

  pub whole_of : {o : Front} (e : Expression) (x rest : List ℕ) → Prints b b (Level 11) (IsBegun e) o x rest → Prints b b Whole (Is e) o x rest
  unfolding Whole
  whole_of e x rest P = prints_ahead_right x rest (prints_made x rest P (λ v i. i))

  -- a token that stands for an expression
  pub literal_prints : (k : TokenKind) (e : ExpressionKind) (q : Place) (x rest : List ℕ) → opened k b ≡ b → IsToken (keeps b) k x rest → among (kind_sort k) literal_sorts ≡ true → literal_kind k ≡ e → IsUtf8 x → Prints b b Prim (Is (expression q e)) (one_of (kind_sort k ∷ [])) x rest
  unfolding Prim Literal
  literal_prints k e q x rest c t m is u = prints_brackets x rest c (prints_left x rest (prints_one k x rest t m (λ p. ap (λ z. expression nowhere (bare_expression_kind z)) is) u))

  -- an operand with one tail
  pub member_prints : {o : Front} (e : Expression) (q : Place) (n x rest : List ℕ) → has_some o ≡ true → Prints b b Prim (Is e) o x (46 ∷ (n ++ rest)) → IsIdent n → goes_on rest ≡ false → Prints b b Postfix (IsBegun (expression q (member e n))) o (x ++ 46 ∷ n) rest
  unfolding Postfix BegunPrim OneTail
  member_prints e q n x rest s P i r =
      prints_loop x (46 ∷ n) rest (prints_here {X = IsBegun e} x (46 ∷ (n ++ rest)) s P (λ t v i. i))
      (λ a ia. turns_last {W = λ t. t ≡ member_tail n} (sign_sort signs.Dot) (46 ∷ n) rest a refl refl refl
      (prints_left (46 ∷ n) rest (prints_made (46 ∷ n) rest (prints_both {X = λ m. m ≡ n} (46 ∷ []) n rest (prints_dot (n ++ rest)) (prints_ident n rest i r) (λ v w i j. j)) (λ m im. ap member_tail im)))
      (λ v iv. member_is a v e q n ia iv))

  pub index_prints : {o r : Front} (e i : Expression) (q : Place) (x y rest : List ℕ) → has_some o ≡ true → Prints b b Prim (Is e) o x (91 ∷ (y ++ 93 ∷ rest)) → Prints (b ++ signs.OpenBracket ∷ []) (b ++ signs.OpenBracket ∷ []) Whole (Is i) r y (93 ∷ rest)
      → Prints b b Postfix (IsBegun (expression q (index e i))) o (x ++ 91 ∷ (y ++ 93 ∷ [])) rest
  unfolding Postfix BegunPrim OneTail
  index_prints e i q x y rest s P Q =
      prints_loop x (91 ∷ (y ++ 93 ∷ [])) rest (prints_here {X = IsBegun e} x _ s (prints_rest x (append_assoc (91 ∷ y) (93 ∷ []) rest) P) (λ t v i. i))
      (λ a ia. turns_last {W = IsIndex i} (sign_sort signs.OpenBracket) (91 ∷ (y ++ 93 ∷ [])) rest a refl refl refl
      (prints_right _ rest (prints_left _ rest (prints_made _ rest (prints_both {X = Is i} (91 ∷ []) (y ++ 93 ∷ []) rest (prints_open_bracket _) (prints_both y (93 ∷ []) rest (prints_rec y (93 ∷ rest) Q (λ v i. i)) (prints_close_bracket rest) (λ v w i j. i)) (λ v w i j. j)) (λ v iv. (v, refl, iv)))))
      (λ v iv. index_is a v e i q ia iv))
