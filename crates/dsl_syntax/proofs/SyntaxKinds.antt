-- Statements and expressions by their kinds, beside their plain values.
use Rattle.std.proofs.Common.{◌≡◌, ℕ, ℤ, Bool, List, Vec, Global, Option, None, Some, refl, ap, ◌∙◌}
use Rattle.std.specs.declared.boxed.Box.{Box}
use Rattle.std.specs.declared.sync.Arc.{Arc}
use Rattle.std.specs.Arc.{arc_value}
use Rattle.site_base.specs.declared.place.Place.{Place}
use Rattle.dsl_syntax.specs.Syntax.{null, this, globals, boolean, number, string, name, array, dictionary, member, index, call, unary, binary, function_value, object, template, apply, assign, ignore, import, throw, eval, include, include_library, include_all, break, continue, const, var, set, choose, while, for, define, return}
use Rattle.dsl_syntax.specs.SyntaxView.{expr_kind_view, expr_view, stmt_kind_view, func_view, block_view, each_view, base_view, exprs_view, entries_view, uses_view, steps_view, arms_view, stmts_view, maybe_expr_view, maybe_each_view, stmt_row}
use Rattle.dsl_syntax.specs.declared.arm.Arm.{Arm}
use Rattle.dsl_syntax.specs.declared.base.Base.{Base}
use Rattle.dsl_syntax.specs.declared.bin_op.BinOp.{BinOp}
use Rattle.dsl_syntax.specs.declared.block.Block.{Block}
use Rattle.dsl_syntax.specs.declared.each.Each.{Each}
use Rattle.dsl_syntax.specs.declared.expr.Expr.{Expr}
use Rattle.dsl_syntax.specs.declared.expr_kind.ExprKind.TheBlock.{hidden-the_row-Stmt-5}
use Rattle.dsl_syntax.specs.declared.expr_kind.ExprKind.TheBlock as leaves
use Rattle.dsl_syntax.specs.declared.expr_kind.ExprKind.TheViews as kinds
use Rattle.dsl_syntax.specs.declared.func.Func.{Func}
use Rattle.dsl_syntax.specs.declared.set_op.SetOp.{SetOp}
use Rattle.dsl_syntax.specs.declared.step.Step.{Step}
use Rattle.dsl_syntax.specs.declared.stmt.Stmt.{Stmt}
use Rattle.dsl_syntax.specs.declared.un_op.UnOp.{UnOp}
use Rattle.dsl_syntax.specs.declared.used.Use.{Use}
use Rattle.dsl_syntax.proofs.SyntaxRows.{exprs_vec, entries_vec, uses_vec, steps_vec, arms_vec, stmts_vec}

-- Expressions.

pub kind_null : expr_kind_view leaves.Null ≡ null
kind_null = refl

pub kind_bool : (b : Bool) → expr_kind_view (leaves.Bool b) ≡ boolean b
kind_bool b = refl

pub kind_number : (n : ℤ) → expr_kind_view (leaves.Number n) ≡ number n
kind_number n = refl

pub kind_str : (t : List ℕ) → expr_kind_view (leaves.Str t) ≡ string t
kind_str t = refl

pub kind_name : (t : List ℕ) → expr_kind_view (leaves.Name t) ≡ name t
kind_name t = refl

pub kind_this : expr_kind_view leaves.This ≡ this
kind_this = refl

pub kind_globals : expr_kind_view leaves.Globals ≡ globals
kind_globals = refl

pub kind_array : (es : Vec Expr Global) → expr_kind_view (kinds.Array es) ≡ array (exprs_view es.items)
kind_array es = ap array (exprs_vec es)

pub kind_dict : (ps : Vec (List ℕ × Expr) Global) → expr_kind_view (kinds.Dict ps) ≡ dictionary (entries_view ps.items)
kind_dict ps = ap dictionary (entries_vec ps)

pub kind_member : (b : Box Expr Global) (t : List ℕ) → expr_kind_view (kinds.ExprKind::Member b t) ≡ member (expr_view b.value) t
kind_member b t = refl

pub kind_index : (a b : Box Expr Global) → expr_kind_view (kinds.ExprKind::Index a b) ≡ index (expr_view a.value) (expr_view b.value)
kind_index a b = refl

pub kind_call : (f : Box Expr Global) (es : Vec Expr Global) → expr_kind_view (kinds.Call f es) ≡ call (expr_view f.value) (exprs_view es.items)
kind_call f es = ap (call (expr_view f.value)) (exprs_vec es)

pub kind_unary : (o : UnOp) (a : Box Expr Global) → expr_kind_view (kinds.Unary o a) ≡ unary o (expr_view a.value)
kind_unary o a = refl

pub kind_binary : (o : BinOp) (a b : Box Expr Global) → expr_kind_view (kinds.Binary o a b) ≡ binary o (expr_view a.value) (expr_view b.value)
kind_binary o a b = refl

pub kind_function : (f : Arc Func Global) → expr_kind_view (kinds.Function f) ≡ function_value (func_view (arc_value f))
kind_function f = refl

-- Statements.

pub kind_object : (t : List ℕ) (e : Expr) (us : Vec Use Global) (b : Arc Block Global) → stmt_kind_view (kinds.Object t e us b) ≡ object t (expr_view e) (uses_view us.items) (block_view (arc_value b))
kind_object t e us b = ap (λ u. object t (expr_view e) u (block_view (arc_value b))) (uses_vec us)

pub kind_template : (t : List ℕ) (e : Expr) (us : Vec Use Global) (b : Arc Block Global) → stmt_kind_view (kinds.Template t e us b) ≡ template t (expr_view e) (uses_view us.items) (block_view (arc_value b))
kind_template t e us b = ap (λ u. template t (expr_view e) u (block_view (arc_value b))) (uses_vec us)

pub kind_apply : (t : List ℕ) (e : Option Expr) (to : Option (List ℕ)) (l : Option (Arc Each Global)) (us : Vec Use Global) (b : Arc Block Global) → stmt_kind_view (kinds.Apply t e to l us b) ≡ apply t (maybe_expr_view e) to (maybe_each_view l) (uses_view us.items) (block_view (arc_value b))
kind_apply t None to None us b = ap (λ u. apply t (maybe_expr_view None) to (maybe_each_view None) u (block_view (arc_value b))) (uses_vec us)
kind_apply t None to (Some l) us b = ap (λ u. apply t (maybe_expr_view None) to (maybe_each_view (Some l)) u (block_view (arc_value b))) (uses_vec us)
kind_apply t (Some e) to None us b = ap (λ u. apply t (maybe_expr_view (Some e)) to (maybe_each_view None) u (block_view (arc_value b))) (uses_vec us)
kind_apply t (Some e) to (Some l) us b = ap (λ u. apply t (maybe_expr_view (Some e)) to (maybe_each_view (Some l)) u (block_view (arc_value b))) (uses_vec us)

pub kind_ignore : (e : Expr) → stmt_kind_view (kinds.Ignore e) ≡ ignore (expr_view e)
kind_ignore e = refl

pub kind_import : (e : Expr) → stmt_kind_view (kinds.Import e) ≡ import (expr_view e)
kind_import e = refl

pub kind_include : (t : List ℕ) (p : Place) → stmt_kind_view (leaves.Include t p) ≡ include t p
kind_include t p = refl

pub kind_include_library : (t : List ℕ) (p : Place) → stmt_kind_view (leaves.IncludeLib t p) ≡ include_library t p
kind_include_library t p = refl

pub kind_include_all : (d t : List ℕ) (p : Place) → stmt_kind_view (leaves.IncludeAll d t p) ≡ include_all d t p
kind_include_all d t p = refl

pub kind_assign : (e : Expr) → stmt_kind_view (kinds.Assign e) ≡ assign (expr_view e)
kind_assign e = refl

pub kind_const : (t : List ℕ) (e : Expr) → stmt_kind_view (kinds.Const t e) ≡ const t (expr_view e)
kind_const t e = refl

pub kind_var : (t : List ℕ) (e : Option Expr) → stmt_kind_view (kinds.Var t e) ≡ var t (maybe_expr_view e)
kind_var t None = refl
kind_var t (Some e) = refl

pub kind_set : (b : Base) (ss : Vec Step Global) (o : SetOp) (e : Expr) → stmt_kind_view (kinds.Set b ss o e) ≡ set (base_view b) (steps_view ss.items) o (expr_view e)
kind_set b ss o e = ap (λ s. set (base_view b) s o (expr_view e)) (steps_vec ss)

pub kind_if : (arms : Vec Arm Global) (other : Vec Stmt Global) → stmt_kind_view (kinds.If arms other) ≡ choose (arms_view arms.items) (stmts_view other.items)
kind_if arms other = ap (λ a. choose a (stmt_row (hidden-the_row-Stmt-5 other))) (arms_vec arms) ∙ ap (choose (arms_view arms.items)) (stmts_vec other)

pub kind_while : (e : Expr) (b : Vec Stmt Global) → stmt_kind_view (kinds.While e b) ≡ while (expr_view e) (stmts_view b.items)
kind_while e b = ap (while (expr_view e)) (stmts_vec b)

pub kind_for : (e : Each) (b : Vec Stmt Global) → stmt_kind_view (kinds.For e b) ≡ for (each_view e) (stmts_view b.items)
kind_for e b = ap (for (each_view e)) (stmts_vec b)

pub kind_define : (t : List ℕ) (f : Arc Func Global) → stmt_kind_view (kinds.Define t f) ≡ define t (func_view (arc_value f))
kind_define t f = refl

pub kind_return : (e : Option Expr) → stmt_kind_view (kinds.Return e) ≡ return (maybe_expr_view e)
kind_return None = refl
kind_return (Some e) = refl

pub kind_break : stmt_kind_view leaves.Break ≡ break
kind_break = refl

pub kind_continue : stmt_kind_view leaves.Continue ≡ continue
kind_continue = refl

pub kind_throw : (e : Expr) → stmt_kind_view (kinds.Throw e) ≡ throw (expr_view e)
kind_throw e = refl

pub kind_eval : (e : Expr) → stmt_kind_view (kinds.Eval e) ≡ eval (expr_view e)
kind_eval e = refl
