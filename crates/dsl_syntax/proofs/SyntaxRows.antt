-- The lists inside the syntax tree beside their plain values.
use Rattle.std.proofs.Common.{◌≡◌, ℕ, List, Vec, Global, refl, sym, ap, ◌∙◌}
use Rattle.dsl_syntax.specs.Syntax.{expression, statement, function, more_expressions, more_entries, more_statements, more_uses, more_arms, Uses, Arms}
use Rattle.dsl_syntax.specs.SyntaxView.{expr_kind_view, expr_view, stmt_kind_view, func_view, block_view, use_then, arm_then, step_then, expr_row, entry_row, use_row, step_row, arm_row, stmt_row, exprs_view, entries_view, uses_view, steps_view, arms_view, stmts_view, maybe_expr_view}
use Rattle.dsl_syntax.specs.declared.arm.Arm.{Arm}
use Rattle.dsl_syntax.specs.declared.block.Block.{Block}
use Rattle.dsl_syntax.specs.declared.expr.Expr.{Expr}
use Rattle.dsl_syntax.specs.declared.expr_kind.ExprKind.TheBlock.{Row_of-ExprKind-Dict-0-2, end_of-ExprKind-Dict-0-2, more_of-ExprKind-Dict-0-2, Row_of-Arm, end_of-Arm, more_of-Arm, Row_of-Use, end_of-Use, more_of-Use, Row_of-Stmt, end_of-Stmt, more_of-Stmt, Row_of-Expr, end_of-Expr, more_of-Expr, Row_of-Step, end_of-Step, more_of-Step}
use Rattle.dsl_syntax.specs.declared.expr_kind.ExprKind.TheBlock.{items-the_row-Expr, items-the_row-ExprKind-Dict-0-2, items-the_row-Use, items-the_row-Step, items-the_row-Arm, items-the_row-Stmt, hidden-the_row-Expr-0, hidden-the_row-ExprKind-Dict-0-2-1, hidden-the_row-Use-2, hidden-the_row-Step-3, hidden-the_row-Arm-4, hidden-the_row-Stmt-5, items_hidden-the_row-Expr-0, items_hidden-the_row-ExprKind-Dict-0-2-1, items_hidden-the_row-Use-2, items_hidden-the_row-Step-3, items_hidden-the_row-Arm-4, items_hidden-the_row-Stmt-5, shown-the_row-Use-2, shown-the_row-Stmt-5, items_shown-the_row-Use-2, items_shown-the_row-Stmt-5, struct-Block, struct-Func, struct-Use, struct-Arm, StmtKind-Apply-1-None', StmtKind-Apply-1-Some'}
use Rattle.dsl_syntax.specs.declared.expr_kind.ExprKind.TheViews.{out-Block, out-Func, out-Use, out-Arm, roll-Block, roll-Func, roll-Use, roll-Arm}
use Rattle.dsl_syntax.specs.declared.func.Func.{Func}
use Rattle.dsl_syntax.specs.declared.step.Step.{Step}
use Rattle.dsl_syntax.specs.declared.stmt.Stmt.{Stmt}
use Rattle.dsl_syntax.specs.declared.used.Use.{Use}
use Rattle.std.proofs.Common.{Option, None, Some}

row_exprs : (n : _) (row : Row_of-Expr n) → expr_row row ≡ exprs_view (items-the_row-Expr n row)
row_exprs n end_of-Expr = refl
row_exprs n (more_of-Expr l k es) = ap (more_expressions (expression l (expr_kind_view k))) (row_exprs _ es)

pub exprs_vec : (es : Vec Expr Global) → expr_row (hidden-the_row-Expr-0 es) ≡ exprs_view es.items
exprs_vec es = row_exprs _ (hidden-the_row-Expr-0 es) ∙ ap exprs_view (items_hidden-the_row-Expr-0 es)

row_entries : (n : _) (row : Row_of-ExprKind-Dict-0-2 n) → entry_row row ≡ entries_view (items-the_row-ExprKind-Dict-0-2 n row)
row_entries n end_of-ExprKind-Dict-0-2 = refl
row_entries n (more_of-ExprKind-Dict-0-2 t l k ps) = ap (more_entries t (expression l (expr_kind_view k))) (row_entries _ ps)

pub entries_vec : (ps : Vec (List ℕ × Expr) Global) → entry_row (hidden-the_row-ExprKind-Dict-0-2-1 ps) ≡ entries_view ps.items
entries_vec ps = row_entries _ (hidden-the_row-ExprKind-Dict-0-2-1 ps) ∙ ap entries_view (items_hidden-the_row-ExprKind-Dict-0-2-1 ps)

row_uses : (n : _) (row : Row_of-Use n) → use_row row ≡ uses_view (items-the_row-Use n row)
row_uses n end_of-Use = refl
row_uses n (more_of-Use u us) = ap (use_then u) (row_uses _ us)

pub uses_vec : (us : Vec Use Global) → use_row (hidden-the_row-Use-2 us) ≡ uses_view us.items
uses_vec us = row_uses _ (hidden-the_row-Use-2 us) ∙ ap uses_view (items_hidden-the_row-Use-2 us)

row_steps : (n : _) (row : Row_of-Step n) → step_row row ≡ steps_view (items-the_row-Step n row)
row_steps n end_of-Step = refl
row_steps n (more_of-Step s ss) = ap (step_then s) (row_steps _ ss)

pub steps_vec : (ss : Vec Step Global) → step_row (hidden-the_row-Step-3 ss) ≡ steps_view ss.items
steps_vec ss = row_steps _ (hidden-the_row-Step-3 ss) ∙ ap steps_view (items_hidden-the_row-Step-3 ss)

row_arms : (n : _) (row : Row_of-Arm n) → arm_row row ≡ arms_view (items-the_row-Arm n row)
row_arms n end_of-Arm = refl
row_arms n (more_of-Arm a more) = ap (arm_then a) (row_arms _ more)

pub arms_vec : (arms : Vec Arm Global) → arm_row (hidden-the_row-Arm-4 arms) ≡ arms_view arms.items
arms_vec arms = row_arms _ (hidden-the_row-Arm-4 arms) ∙ ap arms_view (items_hidden-the_row-Arm-4 arms)

row_stmts : (n : _) (row : Row_of-Stmt n) → stmt_row row ≡ stmts_view (items-the_row-Stmt n row)
row_stmts n end_of-Stmt = refl
row_stmts n (more_of-Stmt l k ss) = ap (more_statements (statement l (stmt_kind_view k))) (row_stmts _ ss)

pub stmts_vec : (ss : Vec Stmt Global) → stmt_row (hidden-the_row-Stmt-5 ss) ≡ stmts_view ss.items
stmts_vec ss = row_stmts _ (hidden-the_row-Stmt-5 ss) ∙ ap stmts_view (items_hidden-the_row-Stmt-5 ss)

-- Structs, by their fields.

shown_uses : (z : Vec (Unit {0}) Global) (row : Row_of-Use _) → use_row row ≡ uses_view (shown-the_row-Use-2 z row).items
shown_uses z row = row_uses _ row ∙ ap uses_view (sym (items_shown-the_row-Use-2 z row))

shown_stmts : (z : Vec (Unit {0}) Global) (row : Row_of-Stmt _) → stmt_row row ≡ stmts_view (shown-the_row-Stmt-5 z row).items
shown_stmts z row = row_stmts _ row ∙ ap stmts_view (sym (items_shown-the_row-Stmt-5 z row))

pub block_fields : (b : Block) → block_view b ≡ stmts_view (out-Block b).statements.items
unfolding out-Block denote.Hole.Carrier.out
block_fields (struct-Block z row) = shown_stmts z row

pub func_fields : (f : Func) → func_view f ≡ function (out-Func f).params (uses_view (out-Func f).uses.items) (stmts_view (out-Func f).block.items)
unfolding out-Func denote.Hole.Carrier.out
func_fields (struct-Func ps s us z b) = ap (λ u. function ps u (stmt_row b)) (shown_uses s us) ∙ ap (function ps (uses_view (shown-the_row-Use-2 s us).items)) (shown_stmts z b)

pub use_fields : (u : Use) (us : Uses) → use_then u us ≡ more_uses (out-Use u).name (maybe_expr_view (out-Use u).expr) us
unfolding out-Use denote.Hole.Carrier.out
use_fields (struct-Use t StmtKind-Apply-1-None') us = refl
use_fields (struct-Use t (StmtKind-Apply-1-Some' l k)) us = refl

pub arm_fields : (a : Arm) (more : Arms) → arm_then a more ≡ more_arms (expr_view (out-Arm a).cond) (stmts_view (out-Arm a).block.items) more
unfolding out-Arm denote.Hole.Carrier.out
arm_fields (struct-Arm l k s b) more = ap (λ ss. more_arms (expression l (expr_kind_view k)) ss more) (shown_stmts s b)

-- Structs that are made of fields.

pub made_block : (ss : Vec Stmt Global) → block_view (roll-Block (record { statements = ss })) ≡ stmts_view ss.items
unfolding roll-Block denote.Hole.Carrier.roll
made_block ss = stmts_vec ss

pub made_func : (ps : List (List ℕ)) (us : Vec Use Global) (ss : Vec Stmt Global) → func_view (roll-Func (record { params = ps; uses = us; block = ss })) ≡ function ps (uses_view us.items) (stmts_view ss.items)
unfolding roll-Func denote.Hole.Carrier.roll
made_func ps us ss = ap (λ u. function ps u (stmt_row (hidden-the_row-Stmt-5 ss))) (uses_vec us) ∙ ap (function ps (uses_view us.items)) (stmts_vec ss)

pub made_use : (t : List ℕ) (e : Option Expr) (us : Uses) → use_then (roll-Use (record { name = t; expr = e })) us ≡ more_uses t (maybe_expr_view e) us
unfolding roll-Use denote.Hole.Carrier.roll
made_use t None us = refl
made_use t (Some e) us = refl

pub made_arm : (e : Expr) (ss : Vec Stmt Global) (more : Arms) → arm_then (roll-Arm (record { cond = e; block = ss })) more ≡ more_arms (expr_view e) (stmts_view ss.items) more
unfolding roll-Arm denote.Hole.Carrier.roll
made_arm e ss more = ap (λ b. more_arms (expr_view e) b more) (stmts_vec ss)
