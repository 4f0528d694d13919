-- The plain value that a part of the syntax tree stands for.
use Rattle.std.specs.Prelude.{List, [], ◌∷◌, ℕ, Option, Some, None}
use Rattle.std.specs.Arc.{arc_value}
use Rattle.std.specs.declared.alloc.Global.{Global}
use Rattle.std.specs.declared.sync.Arc.{Arc}
use Rattle.dsl_syntax.specs.Syntax.{Root, at_name, at_this, at_globals, Expression, expression, ExpressionKind, null, this, globals, boolean, number, string, name, array, dictionary, member, index, call, unary, binary, function_value, Expressions, no_expressions, more_expressions, Entries, no_entries, more_entries, MaybeExpression, no_expression, some_expression, Loop, loop, MaybeLoop, no_loop, some_loop, Function, function, Uses, no_uses, more_uses, Steps, no_steps, member_step, index_step, Arms, no_arms, more_arms, Statement, statement, Statements, no_statements, more_statements, StatementKind, object, template, apply, assign, ignore, import, throw, eval, include, include_library, include_all, const, var, set, choose, while, for, define, return, break, continue}
use Rattle.dsl_syntax.specs.Lists.{Entry, entry, Captured, captured, OneStep, to_member, to_index, Armed, armed}
use Rattle.dsl_syntax.specs.declared.arm.Arm.{Arm}
use Rattle.dsl_syntax.specs.declared.base.Base.{Base}
use Rattle.dsl_syntax.specs.declared.base.Base.TheVariants as bases
use Rattle.dsl_syntax.specs.declared.block.Block.{Block}
use Rattle.dsl_syntax.specs.declared.each.Each.{Each}
use Rattle.dsl_syntax.specs.declared.expr.Expr.{Expr}
use Rattle.dsl_syntax.specs.declared.expr_kind.ExprKind.{ExprKind}
use Rattle.dsl_syntax.specs.declared.expr_kind.ExprKind.TheBlock.{Null, Bool as Boolean, Number, Str, Array', Dict', Name, This, Globals, ExprKind::Member', ExprKind::Index', Call', Unary', Binary', Function'}
use Rattle.dsl_syntax.specs.declared.expr_kind.ExprKind.TheBlock.{Object', Template', Apply', Assign', Ignore', Import', Include, IncludeLib, IncludeAll, Const', Var', Set', If', While', For', Define', Return', Break, Continue, Throw', Eval'}
use Rattle.dsl_syntax.specs.declared.expr_kind.ExprKind.TheBlock.{Held-StmtKind-Apply-1, StmtKind-Apply-1-None', StmtKind-Apply-1-Some', Held-StmtKind-Apply-3, StmtKind-Apply-3-None', StmtKind-Apply-3-Some', struct-Func, struct-Block, struct-Use, struct-Arm, Step::Member, Step::Index'}
use Rattle.dsl_syntax.specs.declared.expr_kind.ExprKind.TheBlock.{Row_of-ExprKind-Dict-0-2, end_of-ExprKind-Dict-0-2, more_of-ExprKind-Dict-0-2, Row_of-Arm, end_of-Arm, more_of-Arm, Row_of-Use, end_of-Use, more_of-Use, Row_of-Stmt, end_of-Stmt, more_of-Stmt, Row_of-Expr, end_of-Expr, more_of-Expr, Row_of-Step, end_of-Step, more_of-Step}
use Rattle.dsl_syntax.specs.declared.file.File.{File}
use Rattle.dsl_syntax.specs.declared.func.Func.{Func}
use Rattle.dsl_syntax.specs.declared.step.Step.{Step}
use Rattle.dsl_syntax.specs.declared.stmt.Stmt.{Stmt}
use Rattle.dsl_syntax.specs.declared.stmt_kind.StmtKind.{StmtKind}
use Rattle.dsl_syntax.specs.declared.used.Use.{Use}

abbrev pub base_view : Base → Root
base_view (bases.Name t) = at_name t
base_view bases.This = at_this
base_view bases.Globals = at_globals

abbrev mutual
  pub expr_kind_view : ExprKind → ExpressionKind
  expr_kind_view Null = null
  expr_kind_view (Boolean b) = boolean b
  expr_kind_view (Number n) = number n
  expr_kind_view (Str t) = string t
  expr_kind_view (Array' s es) = array (expr_row es)
  expr_kind_view (Dict' s ps) = dictionary (entry_row ps)
  expr_kind_view (Name t) = name t
  expr_kind_view This = this
  expr_kind_view Globals = globals
  expr_kind_view (ExprKind::Member' p l k t) = member (expression l (expr_kind_view k)) t
  expr_kind_view (ExprKind::Index' p l k q m j) = index (expression l (expr_kind_view k)) (expression m (expr_kind_view j))
  expr_kind_view (Call' p l k s es) = call (expression l (expr_kind_view k)) (expr_row es)
  expr_kind_view (Unary' o p l k) = unary o (expression l (expr_kind_view k))
  expr_kind_view (Binary' o p l k q m j) = binary o (expression l (expr_kind_view k)) (expression m (expr_kind_view j))
  expr_kind_view (Function' p f) = function_value (func_view f)

  pub expr_row : {m : _} → Row_of-Expr m → Expressions
  expr_row end_of-Expr = no_expressions
  expr_row (more_of-Expr l k es) = more_expressions (expression l (expr_kind_view k)) (expr_row es)

  pub entry_row : {m : _} → Row_of-ExprKind-Dict-0-2 m → Entries
  entry_row end_of-ExprKind-Dict-0-2 = no_entries
  entry_row (more_of-ExprKind-Dict-0-2 t l k ps) = more_entries t (expression l (expr_kind_view k)) (entry_row ps)

  pub held_expr : Held-StmtKind-Apply-1 → MaybeExpression
  held_expr StmtKind-Apply-1-None' = no_expression
  held_expr (StmtKind-Apply-1-Some' l k) = some_expression (expression l (expr_kind_view k))

  pub held_loop : Held-StmtKind-Apply-3 → MaybeLoop
  held_loop StmtKind-Apply-3-None' = no_loop
  held_loop (StmtKind-Apply-3-Some' p t v l k) = some_loop (loop t v (expression l (expr_kind_view k)))

  pub func_view : Func → Function
  func_view (struct-Func ps s us z b) = function ps (use_row us) (stmt_row b)

  pub use_then : Use → Uses → Uses
  use_then (struct-Use t o) us = more_uses t (held_expr o) us

  pub use_row : {m : _} → Row_of-Use m → Uses
  use_row end_of-Use = no_uses
  use_row (more_of-Use u us) = use_then u (use_row us)

  pub step_then : Step → Steps → Steps
  step_then (Step::Member t) ss = member_step t ss
  step_then (Step::Index' l k) ss = index_step (expression l (expr_kind_view k)) ss

  pub step_row : {m : _} → Row_of-Step m → Steps
  step_row end_of-Step = no_steps
  step_row (more_of-Step s ss) = step_then s (step_row ss)

  pub arm_then : Arm → Arms → Arms
  arm_then (struct-Arm l k s b) more = more_arms (expression l (expr_kind_view k)) (stmt_row b) more

  pub arm_row : {m : _} → Row_of-Arm m → Arms
  arm_row end_of-Arm = no_arms
  arm_row (more_of-Arm a more) = arm_then a (arm_row more)

  pub stmt_row : {m : _} → Row_of-Stmt m → Statements
  stmt_row end_of-Stmt = no_statements
  stmt_row (more_of-Stmt l s ss) = more_statements (statement l (stmt_kind_view s)) (stmt_row ss)

  pub block_view : Block → Statements
  block_view (struct-Block z b) = stmt_row b

  pub stmt_kind_view : StmtKind → StatementKind
  stmt_kind_view (Object' t l k s us p b) = object t (expression l (expr_kind_view k)) (use_row us) (block_view b)
  stmt_kind_view (Template' t l k s us p b) = template t (expression l (expr_kind_view k)) (use_row us) (block_view b)
  stmt_kind_view (Apply' t n to each s us p b) = apply t (held_expr n) to (held_loop each) (use_row us) (block_view b)
  stmt_kind_view (Assign' l k) = assign (expression l (expr_kind_view k))
  stmt_kind_view (Ignore' l k) = ignore (expression l (expr_kind_view k))
  stmt_kind_view (Import' l k) = import (expression l (expr_kind_view k))
  stmt_kind_view (Include t p) = include t p
  stmt_kind_view (IncludeLib t p) = include_library t p
  stmt_kind_view (IncludeAll d t p) = include_all d t p
  stmt_kind_view (Const' t l k) = const t (expression l (expr_kind_view k))
  stmt_kind_view (Var' t o) = var t (held_expr o)
  stmt_kind_view (Set' r s ss o l k) = set (base_view r) (step_row ss) o (expression l (expr_kind_view k))
  stmt_kind_view (If' s as' z b) = choose (arm_row as') (stmt_row b)
  stmt_kind_view (While' l k s b) = while (expression l (expr_kind_view k)) (stmt_row b)
  stmt_kind_view (For' t v l k s b) = for (loop t v (expression l (expr_kind_view k))) (stmt_row b)
  stmt_kind_view (Define' t p f) = define t (func_view f)
  stmt_kind_view (Return' o) = return (held_expr o)
  stmt_kind_view Break = break
  stmt_kind_view Continue = continue
  stmt_kind_view (Throw' l k) = throw (expression l (expr_kind_view k))
  stmt_kind_view (Eval' l k) = eval (expression l (expr_kind_view k))

abbrev pub expr_view : Expr → Expression
expr_view e = expression e.place (expr_kind_view e.kind)

abbrev pub stmt_view : Stmt → Statement
stmt_view s = statement s.place (stmt_kind_view s.kind)

abbrev pub each_view : Each → Loop
each_view e = loop e.key e.value (expr_view e.expr)

-- One thing of a list.

abbrev pub entry_view : List ℕ × Expr → Entry
entry_view p = entry p.0 (expr_view p.1)

abbrev pub captured_view : Use → Captured
captured_view (struct-Use t o) = captured t (held_expr o)

abbrev pub step_view : Step → OneStep
step_view (Step::Member t) = to_member t
step_view (Step::Index' l k) = to_index (expression l (expr_kind_view k))

abbrev pub armed_view : Arm → Armed
armed_view (struct-Arm l k s b) = armed (expression l (expr_kind_view k)) (stmt_row b)

-- Lists, as the code walks them.

abbrev pub exprs_view : List Expr → Expressions
exprs_view [] = no_expressions
exprs_view (e ∷ es) = more_expressions (expr_view e) (exprs_view es)

abbrev pub entries_view : List (List ℕ × Expr) → Entries
entries_view [] = no_entries
entries_view (p ∷ ps) = more_entries p.0 (expr_view p.1) (entries_view ps)

abbrev pub uses_view : List Use → Uses
uses_view [] = no_uses
uses_view (u ∷ us) = use_then u (uses_view us)

abbrev pub steps_view : List Step → Steps
steps_view [] = no_steps
steps_view (s ∷ ss) = step_then s (steps_view ss)

abbrev pub arms_view : List Arm → Arms
arms_view [] = no_arms
arms_view (a ∷ more) = arm_then a (arms_view more)

abbrev pub stmts_view : List Stmt → Statements
stmts_view [] = no_statements
stmts_view (s ∷ ss) = more_statements (stmt_view s) (stmts_view ss)

abbrev pub file_view : File → Statements
file_view f = stmts_view f.statements.items

abbrev pub maybe_expr_view : Option Expr → MaybeExpression
maybe_expr_view None = no_expression
maybe_expr_view (Some e) = some_expression (expr_view e)

abbrev pub maybe_each_view : Option (Arc Each Global) → MaybeLoop
maybe_each_view None = no_loop
maybe_each_view (Some e) = some_loop (each_view (arc_value e))
