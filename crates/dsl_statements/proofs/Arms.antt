-- The arms of an `if`, by their fields and with one arm more.
use Rattle.std.proofs.Common.{◌≡◌, List, [], ◌∷◌, ◌++◌, Bool, true, Vec, Global, refl, ap, sym, ◌∙◌}
use Rattle.dsl_syntax.specs.Syntax.{Expression, expression, Statements, Arms, no_arms}
use Rattle.dsl_syntax.specs.SyntaxView.{expr_view, expr_kind_view, stmts_view, stmt_row, arm_then, arms_view, armed_view}
use Rattle.dsl_syntax.specs.declared.arm.Arm.{Arm}
use Rattle.dsl_syntax.specs.declared.expr.Expr.{Expr}
use Rattle.dsl_syntax.specs.declared.expr_kind.ExprKind.TheBlock.{struct-Arm}
use Rattle.dsl_syntax.specs.declared.expr_kind.ExprKind.TheViews.{out-Arm, roll-Arm}
use Rattle.dsl_syntax.specs.declared.stmt.Stmt.{Stmt}
use Rattle.dsl_syntax.proofs.SyntaxRows.{stmts_vec, arm_fields}
use Rattle.dsl_syntax.proofs.SyntaxLists.{arms_more}
use Rattle.dsl_rules.specs.Alphabet.{Sort, at, and}
use Rattle.dsl_rules.specs.Rules.{may}
use Rattle.dsl_lexer.specs.declared.token.Token.{Token}
use Rattle.dsl_grammar.specs.Codes.{sorts}
use Rattle.dsl_grammar.specs.Grammar.{choice, else_if, add_else, may_else}
use Rattle.dsl_syntax.specs.Lists.{armed, add_arm}

-- an arm that is made of fields, and an arm's fields
pub made_armed : (e : Expr) (ss : Vec Stmt Global) → armed_view (roll-Arm (record { cond = e; block = ss })) ≡ armed (expr_view e) (stmts_view ss.items)
unfolding roll-Arm denote.Hole.Carrier.roll
made_armed e ss = ap (armed (expr_view e)) (stmts_vec ss)

pub armed_fields : (a : Arm) → armed_view a ≡ armed (expr_view (out-Arm a).cond) (stmts_view (out-Arm a).block.items)
armed_fields (struct-Arm l k s b) = let p = arm_fields (struct-Arm l k s b) no_arms in cc

-- an arm at the end
pub one_arm : (as' : List Arm) (a : Arm) (b : Statements) (more : Bool) → choice (arms_view (as' ++ a ∷ [])) b true ≡ add_else (choice (arms_view as') b more) (else_if (armed_view a))
one_arm as' (struct-Arm l k s c) b more = ap (λ z. choice z b true) (arms_more as' l k s c)

-- where an `else` may follow, the token alone decides
pub may_follow : (cs : List Sort) (as' : Arms) (b : Statements) (more : Bool) (ts : List Token) → may sorts cs (may_else (choice as' b more)) ts ≡ and (at sorts cs ts) more
may_follow cs as' b more [] = refl
may_follow cs as' b more (t ∷ ts) = refl
