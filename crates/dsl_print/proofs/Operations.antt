-- Expressions with operators, printed from their operands.
use Rattle.std.proofs.Common.{◌≡◌, ℕ, suc, List, [], ◌∷◌, ◌++◌, Bool, true, refl, ap, ◌∙◌, subst, append_assoc, append-nil}
use Rattle.std.specs.List.{list_all}
use Rattle.site_base.specs.declared.place.Place.{Place}
use Rattle.dsl_syntax.specs.declared.bin_op.BinOp.{BinOp}
use Rattle.dsl_syntax.specs.declared.bin_op.BinOp.TheVariants as binary_ops
use Rattle.dsl_syntax.specs.declared.un_op.UnOp.{UnOp}
use Rattle.dsl_syntax.specs.declared.un_op.UnOp.TheVariants as unary_ops
use Rattle.dsl_syntax.specs.Syntax.{Expression, expression, unary, binary}
use Rattle.dsl_tree.specs.Operators.{unary_text, binary_text}
use Rattle.dsl_lexer.specs.Brackets.{keeps, opened, opened_by}
use Rattle.dsl_lexer.specs.Tokens.{IsToken}
use Rattle.dsl_lexer.specs.declared.sign.Sign.{Sign}
use Rattle.dsl_lexer.specs.declared.sign.Sign.TheVariants as signs
use Rattle.dsl_lexer.specs.declared.word.Word.TheVariants as words
use Rattle.dsl_lexer.specs.declared.token_kind.TokenKind.{TokenKind}
use Rattle.dsl_lexer.specs.declared.token_kind.TokenKind.TheVariants as kinds
use Rattle.dsl_rules.specs.Alphabet.{among}
use Rattle.dsl_rules.specs.Grammar.{Pair, pair, left, right, fold_pair}
use Rattle.dsl_grammar.specs.Codes.{kind_sort, sign_sort}
use Rattle.dsl_grammar.specs.Operators.{level_sorts, binary_of, unary_of as unary_named, unary_sorts}
use Rattle.dsl_grammar.specs.Grammar.{Whole, Prim, Unary, Prefixed, Prefixes, Prefix, prefix, with_prefixes, Level, Operator, Begun, begun, joined}
use Rattle.dsl_print.specs.Bare.{bare_expression, nowhere}
use Rattle.dsl_print.proofs.Signs.{unary_sign}
use Rattle.dsl_print.proofs.SignTokens.{binary_token}
use Rattle.dsl_print.proofs.Printed.{Front, one_of, has_some, Prints, prints_both, prints_made, prints_left, prints_here, prints_blank, prints_one, prints_brackets, prints_text, prints_rest, prints_empty}
use Rattle.dsl_print.proofs.Loops.{turns_last, prints_loop, prints_once, prints_chain}
use Rattle.dsl_print.proofs.Expressions.{raised, postfix_of, unary_of, level_of, whole_of}
use Rattle.std.specs.Char.{is_ascii}
use Rattle.dsl_print.proofs.Ascii.{ascii_utf8}
use Rattle.dsl_print.proofs.Alike.{Is, IsBegun}

-- Operators before an operand.

unary_is : (o : UnOp) → unary_named (kinds.Sign (unary_sign o)) ≡ o
unary_is unary_ops.Not = refl
unary_is unary_ops.Complement = refl
unary_is unary_ops.Plus = refl
unary_is unary_ops.Minus = refl

unary_among : (o : UnOp) → among (sign_sort (unary_sign o)) unary_sorts ≡ true
unary_among unary_ops.Not = refl
unary_among unary_ops.Complement = refl
unary_among unary_ops.Plus = refl
unary_among unary_ops.Minus = refl

unary_ascii : (o : UnOp) → list_all is_ascii (unary_text o) ≡ true
unary_ascii unary_ops.Not = refl
unary_ascii unary_ops.Complement = refl
unary_ascii unary_ops.Plus = refl
unary_ascii unary_ops.Minus = refl

unary_brackets : (o : UnOp) (b : List Sign) → opened_by (unary_sign o) b ≡ b
unary_brackets unary_ops.Not b = refl
unary_brackets unary_ops.Complement b = refl
unary_brackets unary_ops.Plus b = refl
unary_brackets unary_ops.Minus b = refl

-- this operator alone
abbrev IsPrefix : UnOp → List Prefix → Type 0
IsPrefix o os = (q : Place) × (os ≡ prefix q o ∷ [])

prefixed_is : (o : UnOp) (e : Expression) (p : Place) (os : List Prefix) (v : Expression) → IsPrefix o os → Is e v → Is (expression p (unary o e)) (with_prefixes os v)
prefixed_is o e p os v (q, is) i = ap (λ z. bare_expression (with_prefixes z v)) is ∙ ap (λ z. expression nowhere (unary o z)) i

-- Operators between operands.

abbrev operator_kind : BinOp → TokenKind
operator_kind binary_ops.Mul = kinds.Sign signs.Star
operator_kind binary_ops.Div = kinds.Sign signs.Slash
operator_kind binary_ops.Rem = kinds.Sign signs.Percent
operator_kind binary_ops.Add = kinds.Sign signs.Plus
operator_kind binary_ops.Sub = kinds.Sign signs.Minus
operator_kind binary_ops.ShiftLeft = kinds.Sign signs.ShiftLeft
operator_kind binary_ops.ShiftRight = kinds.Sign signs.ShiftRight
operator_kind binary_ops.Less = kinds.Sign signs.Less
operator_kind binary_ops.Greater = kinds.Sign signs.Greater
operator_kind binary_ops.LessEqual = kinds.Sign signs.AtMost
operator_kind binary_ops.GreaterEqual = kinds.Sign signs.AtLeast
operator_kind binary_ops.In = kinds.Word words.In
operator_kind binary_ops.NotIn = kinds.Sign signs.NotIn
operator_kind binary_ops.Equal = kinds.Sign signs.Equal
operator_kind binary_ops.NotEqual = kinds.Sign signs.NotEqual
operator_kind binary_ops.BitAnd = kinds.Sign signs.BitAnd
operator_kind binary_ops.BitXor = kinds.Sign signs.BitXor
operator_kind binary_ops.BitOr = kinds.Sign signs.BitOr
operator_kind binary_ops.And = kinds.Sign signs.And
operator_kind binary_ops.Or = kinds.Sign signs.Or

-- an operator's level, what is said of its token, and how many levels are above it
record Leveled (o : BinOp) : Type 0 where
  level : ℕ
  above : ℕ
  stands : among (kind_sort (operator_kind o)) (level_sorts level) ≡ true
  named : binary_of (operator_kind o) ≡ o
  whole : raised above (suc level) ≡ 11
  ground : raised level 0 ≡ level
  ascii : list_all is_ascii (binary_text o) ≡ true
  token : (k : Bool) (rest : List ℕ) → IsToken k (operator_kind o) (binary_text o) (32 ∷ rest)
  brackets : (b : List Sign) → opened (operator_kind o) b ≡ b

leveled : (o : BinOp) → Leveled o
leveled binary_ops.Mul = record { level = 0; above = 10; stands = refl; named = refl; whole = refl; ground = refl; ascii = refl; token = λ k rest. binary_token k binary_ops.Mul signs.Star rest refl; brackets = λ b. refl }
leveled binary_ops.Div = record { level = 0; above = 10; stands = refl; named = refl; whole = refl; ground = refl; ascii = refl; token = λ k rest. binary_token k binary_ops.Div signs.Slash rest refl; brackets = λ b. refl }
leveled binary_ops.Rem = record { level = 0; above = 10; stands = refl; named = refl; whole = refl; ground = refl; ascii = refl; token = λ k rest. binary_token k binary_ops.Rem signs.Percent rest refl; brackets = λ b. refl }
leveled binary_ops.Add = record { level = 1; above = 9; stands = refl; named = refl; whole = refl; ground = refl; ascii = refl; token = λ k rest. binary_token k binary_ops.Add signs.Plus rest refl; brackets = λ b. refl }
leveled binary_ops.Sub = record { level = 1; above = 9; stands = refl; named = refl; whole = refl; ground = refl; ascii = refl; token = λ k rest. binary_token k binary_ops.Sub signs.Minus rest refl; brackets = λ b. refl }
leveled binary_ops.ShiftLeft = record { level = 2; above = 8; stands = refl; named = refl; whole = refl; ground = refl; ascii = refl; token = λ k rest. binary_token k binary_ops.ShiftLeft signs.ShiftLeft rest refl; brackets = λ b. refl }
leveled binary_ops.ShiftRight = record { level = 2; above = 8; stands = refl; named = refl; whole = refl; ground = refl; ascii = refl; token = λ k rest. binary_token k binary_ops.ShiftRight signs.ShiftRight rest refl; brackets = λ b. refl }
leveled binary_ops.Less = record { level = 3; above = 7; stands = refl; named = refl; whole = refl; ground = refl; ascii = refl; token = λ k rest. binary_token k binary_ops.Less signs.Less rest refl; brackets = λ b. refl }
leveled binary_ops.Greater = record { level = 3; above = 7; stands = refl; named = refl; whole = refl; ground = refl; ascii = refl; token = λ k rest. binary_token k binary_ops.Greater signs.Greater rest refl; brackets = λ b. refl }
leveled binary_ops.LessEqual = record { level = 3; above = 7; stands = refl; named = refl; whole = refl; ground = refl; ascii = refl; token = λ k rest. binary_token k binary_ops.LessEqual signs.AtMost rest refl; brackets = λ b. refl }
leveled binary_ops.GreaterEqual = record { level = 3; above = 7; stands = refl; named = refl; whole = refl; ground = refl; ascii = refl; token = λ k rest. binary_token k binary_ops.GreaterEqual signs.AtLeast rest refl; brackets = λ b. refl }
leveled binary_ops.In = record { level = 4; above = 6; stands = refl; named = refl; whole = refl; ground = refl; ascii = refl; token = λ k rest. (refl, refl); brackets = λ b. refl }
leveled binary_ops.NotIn = record { level = 4; above = 6; stands = refl; named = refl; whole = refl; ground = refl; ascii = refl; token = λ k rest. binary_token k binary_ops.NotIn signs.NotIn rest refl; brackets = λ b. refl }
leveled binary_ops.Equal = record { level = 5; above = 5; stands = refl; named = refl; whole = refl; ground = refl; ascii = refl; token = λ k rest. binary_token k binary_ops.Equal signs.Equal rest refl; brackets = λ b. refl }
leveled binary_ops.NotEqual = record { level = 5; above = 5; stands = refl; named = refl; whole = refl; ground = refl; ascii = refl; token = λ k rest. binary_token k binary_ops.NotEqual signs.NotEqual rest refl; brackets = λ b. refl }
leveled binary_ops.BitAnd = record { level = 6; above = 4; stands = refl; named = refl; whole = refl; ground = refl; ascii = refl; token = λ k rest. binary_token k binary_ops.BitAnd signs.BitAnd rest refl; brackets = λ b. refl }
leveled binary_ops.BitXor = record { level = 7; above = 3; stands = refl; named = refl; whole = refl; ground = refl; ascii = refl; token = λ k rest. binary_token k binary_ops.BitXor signs.BitXor rest refl; brackets = λ b. refl }
leveled binary_ops.BitOr = record { level = 8; above = 2; stands = refl; named = refl; whole = refl; ground = refl; ascii = refl; token = λ k rest. binary_token k binary_ops.BitOr signs.BitOr rest refl; brackets = λ b. refl }
leveled binary_ops.And = record { level = 9; above = 1; stands = refl; named = refl; whole = refl; ground = refl; ascii = refl; token = λ k rest. binary_token k binary_ops.And signs.And rest refl; brackets = λ b. refl }
leveled binary_ops.Or = record { level = 10; above = 0; stands = refl; named = refl; whole = refl; ground = refl; ascii = refl; token = λ k rest. binary_token k binary_ops.Or signs.Or rest refl; brackets = λ b. refl }

-- this operator and this operand
abbrev IsOperation : BinOp → Expression → Pair BinOp Begun → Type 0
IsOperation o d z = (left z ≡ o) × IsBegun d (right z)

joined_is : (o : BinOp) (e d : Expression) (p : Place) (a : Begun) (z : Pair BinOp Begun) → IsBegun e a → IsOperation o d z → IsBegun (expression p (binary o e d)) (fold_pair joined a z)
joined_is o e d p (begun q f) (pair u (begun r g)) ia (is, id) = ap (λ z. expression nowhere (binary z (bare_expression f) (bare_expression g))) is ∙ (ap (λ z. expression nowhere (binary o z (bare_expression g))) ia ∙ ap (λ z. expression nowhere (binary o (bare_expression e) z)) id)

module _ {b : List Sign} where
  -- an operator before an operand
  pub unary_prints : {r : Front} (o : UnOp) (e : Expression) (p : Place) (x rest : List ℕ) → has_some r ≡ true → IsToken (keeps b) (kinds.Sign (unary_sign o)) (unary_text o) (x ++ rest) → Prints b b Prim (Is e) r x rest
      → Prints b b Whole (Is (expression p (unary o e))) (one_of (sign_sort (unary_sign o) ∷ [])) (unary_text o ++ x) rest
  unfolding Level Unary Prefixed Prefixes
  unary_prints o e p x rest n t P =
      whole_of (expression p (unary o e)) (unary_text o ++ x) rest (level_of 11 0 (unary_text o ++ x) rest
      (prints_here {X = IsBegun (expression p (unary o e))} (unary_text o ++ x) rest refl
      (prints_left _ rest (prints_both {X = Is (expression p (unary o e))} (unary_text o) x rest
      (prints_once {X = IsPrefix o} (unary_text o) (x ++ rest) (prints_made {V = λ y. (q : Place) × (y ≡ prefix q o)} (unary_text o) (x ++ rest)
      (prints_brackets (unary_text o) (x ++ rest) (unary_brackets o b) (prints_one (kinds.Sign (unary_sign o)) (unary_text o) (x ++ rest) t (unary_among o) (λ q. (q, ap (prefix q) (unary_is o))) (ascii_utf8 (unary_text o) (unary_ascii o))))
      (λ y i. (i.0, ap (λ z. z ∷ []) i.1))))
      (prints_made x rest (postfix_of e x rest n P) (λ v i. i))
      (λ os v i j. prefixed_is o e p os v i j)))
      (λ u v i. i)))

  operator_prints : (o : BinOp) (l : Leveled o) (rest : List ℕ) → Prints b b (Operator l.level) (λ v. v ≡ o) (one_of (kind_sort (operator_kind o) ∷ [])) (binary_text o) (32 ∷ rest)
  unfolding Operator
  operator_prints o l rest =
      prints_text (binary_text o ++ []) (binary_text o) (32 ∷ rest) (append-nil (binary_text o)) (prints_both {X = λ v. v ≡ o} (binary_text o) [] (32 ∷ rest)
      (prints_brackets (binary_text o) (32 ∷ rest) (l.brackets b) (prints_one (operator_kind o) (binary_text o) (32 ∷ rest) (l.token (keeps b) rest) l.stands (λ q. l.named) (ascii_utf8 (binary_text o) l.ascii)))
      (prints_once [] (32 ∷ rest) (prints_empty {V = λ n. Unit {0}} (32 ∷ rest) tt))
      (λ v w i j. i))

  -- an operator between operands
  pub binary_prints : {r s : Front} (o : BinOp) (e d : Expression) (p : Place) (x y rest : List ℕ) → has_some r ≡ true → has_some s ≡ true → Prints b b Prim (Is e) r x (32 ∷ (binary_text o ++ 32 ∷ (y ++ rest))) → Prints b b Prim (Is d) s y rest
      → Prints b b Whole (Is (expression p (binary o e d))) r (x ++ 32 ∷ (binary_text o ++ 32 ∷ y)) rest
  unfolding Level
  binary_prints {r = r} {s = s} o e d p x y rest n m P Q =
      whole_of (expression p (binary o e d)) text rest (subst (λ k. Prints b b (Level k) (IsBegun (expression p (binary o e d))) r text rest) l.whole (level_of l.above (suc l.level) text rest at_level))
    where
      l : Leveled o
      l = leveled o

      text : List ℕ
      text = x ++ 32 ∷ (binary_text o ++ 32 ∷ y)

      behind : List ℕ
      behind = 32 ∷ (binary_text o ++ 32 ∷ (y ++ rest))

      first : Prints b b (Level l.level) (IsBegun e) r x (32 ∷ ((binary_text o ++ 32 ∷ y) ++ rest))
      first = prints_rest x (ap (λ z. 32 ∷ z) (append_assoc (binary_text o) (32 ∷ y) rest)) (subst (λ k. Prints b b (Level k) (IsBegun e) r x behind) l.ground (level_of l.level 0 x behind (unary_of e x behind n (postfix_of e x behind n P))))

      at_level : Prints b b (Level (suc l.level)) (IsBegun (expression p (binary o e d))) r text rest
      at_level = prints_chain text rest (prints_loop x (32 ∷ (binary_text o ++ 32 ∷ y)) rest first (λ a ia. turns_last {W = IsOperation o d} (kind_sort (operator_kind o)) (32 ∷ (binary_text o ++ 32 ∷ y)) rest a l.stands refl refl
          (prints_blank (binary_text o ++ 32 ∷ y) rest (prints_both {X = IsOperation o d} (binary_text o) (32 ∷ y) rest (operator_prints o l (y ++ rest)) (prints_blank y rest (subst (λ k. Prints b b (Level k) (IsBegun d) s y rest) l.ground (level_of l.level 0 y rest (unary_of d y rest m (postfix_of d y rest m Q))))) (λ v w i j. (i, j))))
          (λ z iz. joined_is o e d p a z ia iz)))
