-- The keys of expressions and statements: a number for the kind, and then the keys of the parts. Places are no part of them.
use Rattle.std.specs.Prelude.{ℕ, List, [], ◌∷◌, ◌++◌}
use Rattle.dsl_syntax.specs.Syntax.{Root, at_name, at_this, at_globals, Expression, expression, ExpressionKind, null, this, globals, boolean, number, string, name, array, dictionary, member, index, call, unary, binary, function_value, Expressions, no_expressions, more_expressions, Entries, no_entries, more_entries, MaybeExpression, no_expression, some_expression, Loop, loop, MaybeLoop, no_loop, some_loop, Function, function, Uses, no_uses, more_uses, Steps, no_steps, member_step, index_step, Arms, no_arms, more_arms, Statement, statement, Statements, no_statements, more_statements, StatementKind, object, template, apply, assign, ignore, import, throw, eval, include, include_library, include_all, const, var, set, choose, while, for, define, return, break, continue}
use Rattle.task_keys.specs.Keys.{boolean_key, whole_key, text_key, texts_key, maybe_text_key}
use Rattle.task_keys.specs.Operators.{unary_number, binary_number, set_number}

abbrev pub root_key : Root → List ℕ
root_key (at_name n) = 0 ∷ text_key n
root_key at_this = 1 ∷ []
root_key at_globals = 2 ∷ []

abbrev mutual
  pub expression_key : Expression → List ℕ
  expression_key (expression l k) = kind_key k

  pub kind_key : ExpressionKind → List ℕ
  kind_key null = 0 ∷ []
  kind_key this = 1 ∷ []
  kind_key globals = 2 ∷ []
  kind_key (boolean b) = 3 ∷ boolean_key b
  kind_key (number n) = 4 ∷ whole_key n
  kind_key (string t) = 5 ∷ text_key t
  kind_key (name t) = 6 ∷ text_key t
  kind_key (array es) = 7 ∷ expressions_key es
  kind_key (dictionary es) = 8 ∷ entries_key es
  kind_key (member e n) = 9 ∷ (expression_key e ++ text_key n)
  kind_key (index e i) = 10 ∷ (expression_key e ++ expression_key i)
  kind_key (call e es) = 11 ∷ (expression_key e ++ expressions_key es)
  kind_key (unary o e) = 12 ∷ unary_number o ∷ expression_key e
  kind_key (binary o a b) = 13 ∷ binary_number o ∷ (expression_key a ++ expression_key b)
  kind_key (function_value f) = 14 ∷ function_key f

  pub expressions_key : Expressions → List ℕ
  expressions_key no_expressions = 0 ∷ []
  expressions_key (more_expressions e es) = 1 ∷ (expression_key e ++ expressions_key es)

  pub entries_key : Entries → List ℕ
  entries_key no_entries = 0 ∷ []
  entries_key (more_entries k e es) = 1 ∷ (text_key k ++ (expression_key e ++ entries_key es))

  pub maybe_key : MaybeExpression → List ℕ
  maybe_key no_expression = 0 ∷ []
  maybe_key (some_expression e) = 1 ∷ expression_key e

  pub loop_key : Loop → List ℕ
  loop_key (loop k v e) = text_key k ++ (maybe_text_key v ++ expression_key e)

  pub maybe_loop_key : MaybeLoop → List ℕ
  maybe_loop_key no_loop = 0 ∷ []
  maybe_loop_key (some_loop x) = 1 ∷ loop_key x

  pub function_key : Function → List ℕ
  function_key (function ps us b) = texts_key ps ++ (uses_key us ++ statements_key b)

  pub uses_key : Uses → List ℕ
  uses_key no_uses = 0 ∷ []
  uses_key (more_uses n o us) = 1 ∷ (text_key n ++ (maybe_key o ++ uses_key us))

  pub steps_key : Steps → List ℕ
  steps_key no_steps = 0 ∷ []
  steps_key (member_step n ss) = 1 ∷ (text_key n ++ steps_key ss)
  steps_key (index_step e ss) = 2 ∷ (expression_key e ++ steps_key ss)

  pub arms_key : Arms → List ℕ
  arms_key no_arms = 0 ∷ []
  arms_key (more_arms e b more) = 1 ∷ (expression_key e ++ (statements_key b ++ arms_key more))

  pub statement_key : Statement → List ℕ
  statement_key (statement l k) = statement_kind_key k

  pub statements_key : Statements → List ℕ
  statements_key no_statements = 0 ∷ []
  statements_key (more_statements x xs) = 1 ∷ (statement_key x ++ statements_key xs)

  pub statement_kind_key : StatementKind → List ℕ
  statement_kind_key (object kind e us b) = 0 ∷ (text_key kind ++ (expression_key e ++ (uses_key us ++ statements_key b)))
  statement_kind_key (template kind e us b) = 1 ∷ (text_key kind ++ (expression_key e ++ (uses_key us ++ statements_key b)))
  statement_kind_key (apply kind e to each us b) = 2 ∷ (text_key kind ++ (maybe_key e ++ (maybe_text_key to ++ (maybe_loop_key each ++ (uses_key us ++ statements_key b)))))
  statement_kind_key (assign e) = 3 ∷ expression_key e
  statement_kind_key (ignore e) = 4 ∷ expression_key e
  statement_kind_key (import e) = 5 ∷ expression_key e
  statement_kind_key (throw e) = 6 ∷ expression_key e
  statement_kind_key (eval e) = 7 ∷ expression_key e
  statement_kind_key (include n l) = 8 ∷ text_key n
  statement_kind_key (include_library n l) = 9 ∷ text_key n
  statement_kind_key (include_all d n l) = 10 ∷ (text_key d ++ text_key n)
  statement_kind_key (const n e) = 11 ∷ (text_key n ++ expression_key e)
  statement_kind_key (var n o) = 12 ∷ (text_key n ++ maybe_key o)
  statement_kind_key (set r ss o e) = 13 ∷ (root_key r ++ (steps_key ss ++ set_number o ∷ expression_key e))
  statement_kind_key (choose arms other) = 14 ∷ (arms_key arms ++ statements_key other)
  statement_kind_key (while e b) = 15 ∷ (expression_key e ++ statements_key b)
  statement_kind_key (for x b) = 16 ∷ (loop_key x ++ statements_key b)
  statement_kind_key (define n f) = 17 ∷ (text_key n ++ function_key f)
  statement_kind_key (return o) = 18 ∷ maybe_key o
  statement_kind_key break = 19 ∷ []
  statement_kind_key continue = 20 ∷ []
