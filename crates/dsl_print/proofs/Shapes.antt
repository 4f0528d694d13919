-- How expressions begin, what follows them, and their lists.
use Rattle.std.proofs.Common.{◌≡◌, ℕ, List, [], ◌∷◌, ◌++◌, Bool, true, false, cond, codes, ◌==◌, ◌&&◌, refl, ap, ◌∙◌, append_assoc}
use Rattle.std.specs.Char.{is_ascii_digit}
use Rattle.site_base.specs.Quoted.{quoted}
use Rattle.site_base.specs.declared.place.Place.{Place}
use Rattle.dsl_syntax.specs.declared.un_op.UnOp.{UnOp}
use Rattle.dsl_syntax.specs.declared.un_op.UnOp.TheVariants as unary_ops
use Rattle.dsl_syntax.specs.Syntax.{Expression, expression, ExpressionKind, null, this, globals, boolean, number, string, name, array, dictionary, member, index, call, unary, binary, function_value, Expressions, no_expressions, more_expressions, Entries, no_entries, more_entries, MaybeExpression, no_expression, some_expression, Uses, no_uses, more_uses, Statement, Statements, more_statements}
use Rattle.dsl_tree.specs.Spelling.{is_compound, is_dictionary, begins_with_brace, in_parentheses, expr_text, expr_kind_text, operand_text, exprs_text, entries_text, given_text, captures_text, uses_text}
use Rattle.dsl_lexer.specs.Letters.{goes_on, is_name_byte}
use Rattle.dsl_lexer.specs.declared.sign.Sign.{Sign}
use Rattle.dsl_lexer.specs.declared.sign.Sign.TheVariants as signs
use Rattle.dsl_lexer.specs.declared.word.Word.TheVariants as words
use Rattle.dsl_rules.specs.Alphabet.{Sort, among}
use Rattle.dsl_grammar.specs.Codes.{word_sort, sign_sort, ident_sort, number_sort, string_sort}
use Rattle.dsl_syntax.specs.Lists.{add_expression, add_entry, add_use, add_statement, join_expressions, join_entries, join_uses, join_statements}
use Rattle.dsl_grammar.specs.Grammar.{Whole, Prim, Postfix}
use Rattle.dsl_print.specs.Bare.{bare_expression, bare_expressions, bare_entries, bare_maybe, bare_uses, bare_statement, bare_statements}
use Rattle.dsl_print.proofs.Joins.{bare_add_expression, bare_add_entry, bare_add_use, bare_add_statement}
use Rattle.dsl_syntax.proofs.SyntaxLists.{join_add_expression, join_add_entry, join_add_use, join_add_statement}
use Rattle.dsl_print.proofs.Signs.{unary_sign}
use Rattle.dsl_print.proofs.Printed.{Front, one_of, Prints}
use Rattle.dsl_print.proofs.Spelled.{IsEnd}
use Rattle.dsl_print.proofs.Expressions.{postfix_of, unary_of, level_of, whole_of, paren_prints}
use Rattle.dsl_print.proofs.Alike.{Is, IsBegun}

-- The first token.

abbrev mutual
  pub first_sort : ExpressionKind → Sort
  first_sort null = word_sort words.Null
  first_sort this = word_sort words.This
  first_sort globals = word_sort words.Globals
  first_sort (boolean true) = word_sort words.True
  first_sort (boolean false) = word_sort words.False
  first_sort (number n) = number_sort
  first_sort (string s) = string_sort
  first_sort (name s) = ident_sort
  first_sort (array es) = sign_sort signs.OpenBracket
  first_sort (dictionary ps) = sign_sort signs.OpenBrace
  first_sort (member e n) = operand_sort e
  first_sort (index e i) = operand_sort e
  first_sort (call e es) = operand_sort e
  first_sort (unary o e) = sign_sort (unary_sign o)
  first_sort (binary o e d) = operand_sort e
  first_sort (function_value f) = word_sort words.Function

  -- of an operand, which may stand in parentheses
  pub operand_sort : Expression → Sort
  operand_sort (expression p k) = cond (is_compound k) (sign_sort signs.OpenParen) (first_sort k)

-- which begin with no brace

operand_bare : (e : Expression) → is_dictionary e ≡ false → among (operand_sort e) (sign_sort signs.OpenBrace ∷ []) ≡ false
operand_bare (expression p null) h = refl
operand_bare (expression p this) h = refl
operand_bare (expression p globals) h = refl
operand_bare (expression p (boolean true)) h = refl
operand_bare (expression p (boolean false)) h = refl
operand_bare (expression p (number n)) h = refl
operand_bare (expression p (string s)) h = refl
operand_bare (expression p (name s)) h = refl
operand_bare (expression p (array es)) h = refl
operand_bare (expression p (dictionary ps)) h = absurd cc
operand_bare (expression p (member e n)) h = refl
operand_bare (expression p (index e i)) h = refl
operand_bare (expression p (call e es)) h = refl
operand_bare (expression p (unary o e)) h = refl
operand_bare (expression p (binary o e d)) h = refl
operand_bare (expression p (function_value f)) h = refl

unary_bare : (o : UnOp) → among (sign_sort (unary_sign o)) (sign_sort signs.OpenBrace ∷ []) ≡ false
unary_bare unary_ops.Not = refl
unary_bare unary_ops.Complement = refl
unary_bare unary_ops.Plus = refl
unary_bare unary_ops.Minus = refl

pub begins_bare : (p : Place) (k : ExpressionKind) → begins_with_brace (expression p k) ≡ false → among (first_sort k) (sign_sort signs.OpenBrace ∷ []) ≡ false
begins_bare p null h = refl
begins_bare p this h = refl
begins_bare p globals h = refl
begins_bare p (boolean true) h = refl
begins_bare p (boolean false) h = refl
begins_bare p (number n) h = refl
begins_bare p (string s) h = refl
begins_bare p (name s) h = refl
begins_bare p (array es) h = refl
begins_bare p (dictionary ps) h = absurd cc
begins_bare p (member e n) h = operand_bare e h
begins_bare p (index e i) h = operand_bare e h
begins_bare p (call e es) h = operand_bare e h
begins_bare p (unary o e) h = unary_bare o
begins_bare p (binary o e d) h = operand_bare e h
begins_bare p (function_value f) h = refl

abbrev pub begin_of : Expression → Front
begin_of (expression p k) = one_of (first_sort k ∷ [])

-- What follows.

pub end_at : (b : ℕ) (bs : List ℕ) → is_name_byte b ≡ false → (b == 46) ≡ false → IsEnd (b ∷ bs)
end_at b [] n p = (n, refl)
end_at b (d ∷ bs) n p = (n, ap (λ z. z && is_ascii_digit d) p)

pub exprs_end : (es : Expressions) (rest : List ℕ) → IsEnd rest → IsEnd (exprs_text true es ++ rest)
exprs_end no_expressions rest e = e
exprs_end (more_expressions x es) rest e = (refl, refl)

-- the entries behind the first, and all, with a blank before the first
abbrev pub entries_later : Entries → List ℕ
entries_later no_entries = []
entries_later (more_entries k e ps) = 44 ∷ 32 ∷ ((quoted k ++ (codes " = " ++ expr_text e)) ++ entries_later ps)

abbrev pub entries_inner : Entries → List ℕ
entries_inner no_entries = []
entries_inner (more_entries k e ps) = 32 ∷ ((quoted k ++ (codes " = " ++ expr_text e)) ++ entries_later ps)

three_parts : (x y z w : List ℕ) → ((x ++ (codes " = " ++ y)) ++ z) ++ w ≡ x ++ (codes " = " ++ (y ++ (z ++ w)))
three_parts x y z w = append_assoc (x ++ (codes " = " ++ y)) z w ∙ append_assoc x (codes " = " ++ y) (z ++ w)

pub entries_later_is : (ps : Entries) → entries_later ps ++ codes " }" ≡ entries_text true ps
entries_later_is no_entries = refl
entries_later_is (more_entries k e ps) = ap (λ u. 44 ∷ 32 ∷ u) (three_parts (quoted k) (expr_text e) (entries_later ps) (codes " }") ∙ ap (λ u. quoted k ++ (codes " = " ++ (expr_text e ++ u))) (entries_later_is ps))

pub entries_inner_is : (ps : Entries) → entries_inner ps ++ codes " }" ≡ 32 ∷ entries_text false ps
entries_inner_is no_entries = refl
entries_inner_is (more_entries k e ps) = ap (λ u. 32 ∷ u) (three_parts (quoted k) (expr_text e) (entries_later ps) (codes " }") ∙ ap (λ u. quoted k ++ (codes " = " ++ (expr_text e ++ u))) (entries_later_is ps))

pub entries_end : (ps : Entries) (rest : List ℕ) → IsEnd rest → IsEnd (entries_later ps ++ rest)
entries_end no_entries rest e = e
entries_end (more_entries k x ps) rest e = (refl, refl)

-- the captured names behind the first
abbrev pub uses_later : Uses → List ℕ
uses_later no_uses = []
uses_later (more_uses n m us) = 44 ∷ 32 ∷ ((n ++ given_text m) ++ uses_later us)

pub uses_later_is : (us : Uses) → uses_later us ++ 41 ∷ [] ≡ captures_text true us
uses_later_is no_uses = refl
uses_later_is (more_uses n m us) = ap (λ u. 44 ∷ 32 ∷ u) (append_assoc (n ++ given_text m) (uses_later us) (41 ∷ []) ∙ (append_assoc n (given_text m) (uses_later us ++ 41 ∷ []) ∙ ap (λ u. n ++ (given_text m ++ u)) (uses_later_is us)))

pub uses_all_is : (n : List ℕ) (m : MaybeExpression) (us : Uses) → codes " use (" ++ (((n ++ given_text m) ++ uses_later us) ++ 41 ∷ []) ≡ uses_text (more_uses n m us)
uses_all_is n m us = ap (λ u. codes " use (" ++ u) (append_assoc (n ++ given_text m) (uses_later us) (41 ∷ []) ∙ (append_assoc n (given_text m) (uses_later us ++ 41 ∷ []) ∙ ap (λ u. n ++ (given_text m ++ u)) (uses_later_is us)))

pub uses_end : (us : Uses) (rest : List ℕ) → IsEnd rest → IsEnd (uses_later us ++ rest)
uses_end no_uses rest e = e
uses_end (more_uses n m us) rest e = (refl, refl)

pub given_goes : (m : MaybeExpression) (rest : List ℕ) → goes_on rest ≡ false → goes_on (given_text m ++ rest) ≡ false
given_goes no_expression rest e = e
given_goes (some_expression x) rest e = refl

-- Lists of what was read so far, with one thing more.

pub joins_expression : (a es : Expressions) (v e : Expression) (all : Expressions) → Is e v → join_expressions (bare_expressions a) (bare_expressions (more_expressions e es)) ≡ bare_expressions all → join_expressions (bare_expressions (add_expression a v)) (bare_expressions es) ≡ bare_expressions all
joins_expression a es v e all i q = ap (λ z. join_expressions z (bare_expressions es)) (bare_add_expression a v) ∙ (join_add_expression (bare_expressions a) (bare_expression v) (bare_expressions es) ∙ (ap (λ z. join_expressions (bare_expressions a) (more_expressions z (bare_expressions es))) i ∙ q))

pub joins_entry : (a ps : Entries) (k : List ℕ) (v e : Expression) (all : Entries) → Is e v → join_entries (bare_entries a) (bare_entries (more_entries k e ps)) ≡ bare_entries all → join_entries (bare_entries (add_entry a k v)) (bare_entries ps) ≡ bare_entries all
joins_entry a ps k v e all i q = ap (λ z. join_entries z (bare_entries ps)) (bare_add_entry a k v) ∙ (join_add_entry (bare_entries a) k (bare_expression v) (bare_entries ps) ∙ (ap (λ z. join_entries (bare_entries a) (more_entries k z (bare_entries ps))) i ∙ q))

pub joins_use : (a us : Uses) (n : List ℕ) (w m : MaybeExpression) (all : Uses) → bare_maybe w ≡ bare_maybe m → join_uses (bare_uses a) (bare_uses (more_uses n m us)) ≡ bare_uses all → join_uses (bare_uses (add_use a n w)) (bare_uses us) ≡ bare_uses all
joins_use a us n w m all i q = ap (λ z. join_uses z (bare_uses us)) (bare_add_use a n w) ∙ (join_add_use (bare_uses a) n (bare_maybe w) (bare_uses us) ∙ (ap (λ z. join_uses (bare_uses a) (more_uses n z (bare_uses us))) i ∙ q))

pub joins_statement : (a ss : Statements) (v s : Statement) (all : Statements) → bare_statement v ≡ bare_statement s → join_statements (bare_statements a) (bare_statements (more_statements s ss)) ≡ all → join_statements (bare_statements (add_statement a v)) (bare_statements ss) ≡ all
joins_statement a ss v s all i q = ap (λ z. join_statements z (bare_statements ss)) (bare_add_statement a v) ∙ (join_add_statement (bare_statements a) (bare_statement v) (bare_statements ss) ∙ (ap (λ z. join_statements (bare_statements a) (more_statements z (bare_statements ss))) i ∙ q))

-- Operands.

module _ {b : List Sign} where
  pub whole_postfix : (e : Expression) (s : Sort) (x rest : List ℕ) → Prints b b Postfix (IsBegun e) (one_of (s ∷ [])) x rest → Prints b b Whole (Is e) (one_of (s ∷ [])) x rest
  whole_postfix e s x rest P = whole_of e x rest (level_of 11 0 x rest (unary_of e x rest refl P))

  pub whole_prim : (e : Expression) (s : Sort) (x rest : List ℕ) → Prints b b Prim (Is e) (one_of (s ∷ [])) x rest → Prints b b Whole (Is e) (one_of (s ∷ [])) x rest
  whole_prim e s x rest P = whole_postfix e s x rest (postfix_of e x rest refl P)

  -- an operand is a primary, or stands in parentheses
  pub operand_of : (p : Place) (k : ExpressionKind) (rest : List ℕ) → (is_compound k ≡ false → Prints b b Prim (Is (expression p k)) (one_of (first_sort k ∷ [])) (expr_kind_text k) rest)
      → Prints (b ++ signs.OpenParen ∷ []) (b ++ signs.OpenParen ∷ []) Whole (Is (expression p k)) (one_of (first_sort k ∷ [])) (expr_kind_text k) (41 ∷ rest)
      → Prints b b Prim (Is (expression p k)) (one_of (operand_sort (expression p k) ∷ [])) (operand_text (expression p k)) rest
  operand_of p k rest P Q = by (is_compound k) refl
    where
      by : (c : Bool) → is_compound k ≡ c → Prints b b Prim (Is (expression p k)) (one_of (cond c (sign_sort signs.OpenParen) (first_sort k) ∷ [])) (in_parentheses c (expr_kind_text k)) rest
      by true e = paren_prints (expr_kind_text k) rest Q
      by false e = P e
