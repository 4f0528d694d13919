-- Syntax trees without their places: what a print keeps of a tree.
use Rattle.site_base.specs.declared.place.Place.{Place}
use Rattle.dsl_syntax.specs.Syntax.{Expression, expression, ExpressionKind, null, this, globals, boolean, number, string, name, array, dictionary, member, index, call, unary, binary, function_value, Expressions, no_expressions, more_expressions, Entries, no_entries, more_entries, MaybeExpression, no_expression, some_expression, Loop, loop, MaybeLoop, no_loop, some_loop, Function, function, Uses, no_uses, more_uses, Steps, no_steps, member_step, index_step, Arms, no_arms, more_arms, Statement, statement, Statements, no_statements, more_statements, StatementKind, object, template, apply, assign, ignore, import, throw, eval, include, include_library, include_all, const, var, set, choose, while, for, define, return, break, continue}

-- what stands in the place of each place
abbrev pub nowhere : Place
nowhere = record { file = 0; line = 0; col = 0 }

abbrev mutual
  pub bare_expression : Expression → Expression
  bare_expression (expression p k) = expression nowhere (bare_expression_kind k)

  pub bare_expression_kind : ExpressionKind → ExpressionKind
  bare_expression_kind null = null
  bare_expression_kind this = this
  bare_expression_kind globals = globals
  bare_expression_kind (boolean b) = boolean b
  bare_expression_kind (number n) = number n
  bare_expression_kind (string s) = string s
  bare_expression_kind (name s) = name s
  bare_expression_kind (array es) = array (bare_expressions es)
  bare_expression_kind (dictionary ps) = dictionary (bare_entries ps)
  bare_expression_kind (member e n) = member (bare_expression e) n
  bare_expression_kind (index e i) = index (bare_expression e) (bare_expression i)
  bare_expression_kind (call e es) = call (bare_expression e) (bare_expressions es)
  bare_expression_kind (unary o e) = unary o (bare_expression e)
  bare_expression_kind (binary o e d) = binary o (bare_expression e) (bare_expression d)
  bare_expression_kind (function_value f) = function_value (bare_function f)

  pub bare_expressions : Expressions → Expressions
  bare_expressions no_expressions = no_expressions
  bare_expressions (more_expressions e es) = more_expressions (bare_expression e) (bare_expressions es)

  pub bare_entries : Entries → Entries
  bare_entries no_entries = no_entries
  bare_entries (more_entries k e ps) = more_entries k (bare_expression e) (bare_entries ps)

  pub bare_maybe : MaybeExpression → MaybeExpression
  bare_maybe no_expression = no_expression
  bare_maybe (some_expression e) = some_expression (bare_expression e)

  pub bare_loop : Loop → Loop
  bare_loop (loop k v e) = loop k v (bare_expression e)

  pub bare_maybe_loop : MaybeLoop → MaybeLoop
  bare_maybe_loop no_loop = no_loop
  bare_maybe_loop (some_loop l) = some_loop (bare_loop l)

  pub bare_function : Function → Function
  bare_function (function ps us b) = function ps (bare_uses us) (bare_statements b)

  pub bare_uses : Uses → Uses
  bare_uses no_uses = no_uses
  bare_uses (more_uses n e us) = more_uses n (bare_maybe e) (bare_uses us)

  pub bare_steps : Steps → Steps
  bare_steps no_steps = no_steps
  bare_steps (member_step n ss) = member_step n (bare_steps ss)
  bare_steps (index_step e ss) = index_step (bare_expression e) (bare_steps ss)

  pub bare_arms : Arms → Arms
  bare_arms no_arms = no_arms
  bare_arms (more_arms e b more) = more_arms (bare_expression e) (bare_statements b) (bare_arms more)

  pub bare_statement : Statement → Statement
  bare_statement (statement p k) = statement nowhere (bare_statement_kind k)

  pub bare_statements : Statements → Statements
  bare_statements no_statements = no_statements
  bare_statements (more_statements s ss) = more_statements (bare_statement s) (bare_statements ss)

  pub bare_statement_kind : StatementKind → StatementKind
  bare_statement_kind (object t e us b) = object t (bare_expression e) (bare_uses us) (bare_statements b)
  bare_statement_kind (template t e us b) = template t (bare_expression e) (bare_uses us) (bare_statements b)
  bare_statement_kind (apply t e to l us b) = apply t (bare_maybe e) to (bare_maybe_loop l) (bare_uses us) (bare_statements b)
  bare_statement_kind (assign e) = assign (bare_expression e)
  bare_statement_kind (ignore e) = ignore (bare_expression e)
  bare_statement_kind (import e) = import (bare_expression e)
  bare_statement_kind (throw e) = throw (bare_expression e)
  bare_statement_kind (eval e) = eval (bare_expression e)
  bare_statement_kind (include n p) = include n nowhere
  bare_statement_kind (include_library n p) = include_library n nowhere
  bare_statement_kind (include_all d n p) = include_all d n nowhere
  bare_statement_kind (const n e) = const n (bare_expression e)
  bare_statement_kind (var n e) = var n (bare_maybe e)
  bare_statement_kind (set r ss o e) = set r (bare_steps ss) o (bare_expression e)
  bare_statement_kind (choose arms b) = choose (bare_arms arms) (bare_statements b)
  bare_statement_kind (while e b) = while (bare_expression e) (bare_statements b)
  bare_statement_kind (for l b) = for (bare_loop l) (bare_statements b)
  bare_statement_kind (define n f) = define n (bare_function f)
  bare_statement_kind (return e) = return (bare_maybe e)
  bare_statement_kind break = break
  bare_statement_kind continue = continue
