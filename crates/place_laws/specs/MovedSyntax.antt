-- Syntax at other places: what stands at a place stands where a function moves it.
use Rattle.site_base.specs.declared.place.Place.{Place}
use Rattle.dsl_syntax.specs.Syntax.{Expression, expression, ExpressionKind, null, this, globals, boolean, number, string, name, array, dictionary, member, index, call, unary, binary, function_value, Expressions, no_expressions, more_expressions, Entries, no_entries, more_entries, MaybeExpression, no_expression, some_expression, Loop, loop, MaybeLoop, no_loop, some_loop, Function, function, Uses, no_uses, more_uses, Steps, no_steps, member_step, index_step, Arms, no_arms, more_arms, Statement, statement, Statements, no_statements, more_statements, StatementKind, object, template, apply, assign, ignore, import, throw, eval, include, include_library, include_all, const, var, set, choose, while, for, define, return, break, continue}

abbrev mutual
  pub moved_expression : (Place → Place) → Expression → Expression
  moved_expression move (expression l k) = expression (move l) (moved_kind move k)

  pub moved_kind : (Place → Place) → ExpressionKind → ExpressionKind
  moved_kind move null = null
  moved_kind move this = this
  moved_kind move globals = globals
  moved_kind move (boolean b) = boolean b
  moved_kind move (number n) = number n
  moved_kind move (string t) = string t
  moved_kind move (name n) = name n
  moved_kind move (array es) = array (moved_expressions move es)
  moved_kind move (dictionary es) = dictionary (moved_entries move es)
  moved_kind move (member e n) = member (moved_expression move e) n
  moved_kind move (index e i) = index (moved_expression move e) (moved_expression move i)
  moved_kind move (call e es) = call (moved_expression move e) (moved_expressions move es)
  moved_kind move (unary o e) = unary o (moved_expression move e)
  moved_kind move (binary o a b) = binary o (moved_expression move a) (moved_expression move b)
  moved_kind move (function_value f) = function_value (moved_function move f)

  pub moved_expressions : (Place → Place) → Expressions → Expressions
  moved_expressions move no_expressions = no_expressions
  moved_expressions move (more_expressions e es) = more_expressions (moved_expression move e) (moved_expressions move es)

  pub moved_entries : (Place → Place) → Entries → Entries
  moved_entries move no_entries = no_entries
  moved_entries move (more_entries k e es) = more_entries k (moved_expression move e) (moved_entries move es)

  pub moved_maybe : (Place → Place) → MaybeExpression → MaybeExpression
  moved_maybe move no_expression = no_expression
  moved_maybe move (some_expression e) = some_expression (moved_expression move e)

  pub moved_loop : (Place → Place) → Loop → Loop
  moved_loop move (loop k o e) = loop k o (moved_expression move e)

  pub moved_maybe_loop : (Place → Place) → MaybeLoop → MaybeLoop
  moved_maybe_loop move no_loop = no_loop
  moved_maybe_loop move (some_loop x) = some_loop (moved_loop move x)

  pub moved_function : (Place → Place) → Function → Function
  moved_function move (function ps us b) = function ps (moved_uses move us) (moved_statements move b)

  pub moved_uses : (Place → Place) → Uses → Uses
  moved_uses move no_uses = no_uses
  moved_uses move (more_uses n o us) = more_uses n (moved_maybe move o) (moved_uses move us)

  pub moved_steps : (Place → Place) → Steps → Steps
  moved_steps move no_steps = no_steps
  moved_steps move (member_step n ss) = member_step n (moved_steps move ss)
  moved_steps move (index_step e ss) = index_step (moved_expression move e) (moved_steps move ss)

  pub moved_arms : (Place → Place) → Arms → Arms
  moved_arms move no_arms = no_arms
  moved_arms move (more_arms e b more) = more_arms (moved_expression move e) (moved_statements move b) (moved_arms move more)

  pub moved_statement : (Place → Place) → Statement → Statement
  moved_statement move (statement l k) = statement (move l) (moved_statement_kind move k)

  pub moved_statements : (Place → Place) → Statements → Statements
  moved_statements move no_statements = no_statements
  moved_statements move (more_statements x xs) = more_statements (moved_statement move x) (moved_statements move xs)

  pub moved_statement_kind : (Place → Place) → StatementKind → StatementKind
  moved_statement_kind move (object kind e us b) = object kind (moved_expression move e) (moved_uses move us) (moved_statements move b)
  moved_statement_kind move (template kind e us b) = template kind (moved_expression move e) (moved_uses move us) (moved_statements move b)
  moved_statement_kind move (apply kind e to each us b) = apply kind (moved_maybe move e) to (moved_maybe_loop move each) (moved_uses move us) (moved_statements move b)
  moved_statement_kind move (assign e) = assign (moved_expression move e)
  moved_statement_kind move (ignore e) = ignore (moved_expression move e)
  moved_statement_kind move (import e) = import (moved_expression move e)
  moved_statement_kind move (throw e) = throw (moved_expression move e)
  moved_statement_kind move (eval e) = eval (moved_expression move e)
  moved_statement_kind move (include n l) = include n (move l)
  moved_statement_kind move (include_library n l) = include_library n (move l)
  moved_statement_kind move (include_all d n l) = include_all d n (move l)
  moved_statement_kind move (const n e) = const n (moved_expression move e)
  moved_statement_kind move (var n o) = var n (moved_maybe move o)
  moved_statement_kind move (set r ss o e) = set r (moved_steps move ss) o (moved_expression move e)
  moved_statement_kind move (choose arms other) = choose (moved_arms move arms) (moved_statements move other)
  moved_statement_kind move (while e b) = while (moved_expression move e) (moved_statements move b)
  moved_statement_kind move (for x b) = for (moved_loop move x) (moved_statements move b)
  moved_statement_kind move (define n f) = define n (moved_function move f)
  moved_statement_kind move (return o) = return (moved_maybe move o)
  moved_statement_kind move break = break
  moved_statement_kind move continue = continue
