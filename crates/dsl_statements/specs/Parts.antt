-- What the parts of statements, as the parser holds them, stand for.
use Rattle.std.specs.Prelude.{Option, Some, None}
use Rattle.dsl_lexer.specs.declared.word.Word.{Word}
use Rattle.dsl_lexer.specs.declared.word.Word.TheVariants as words
use Rattle.dsl_syntax.specs.Syntax.{Expression, expression, StatementKind, eval, assign, ignore, import, throw}
use Rattle.dsl_syntax.specs.SyntaxView.{armed_view, expr_view, expr_kind_view, stmt_row, base_view, steps_view, arms_view, stmts_view}
use Rattle.dsl_syntax.specs.declared.arm.Arm.{Arm}
use Rattle.dsl_syntax.specs.declared.expr_kind.ExprKind.TheBlock.{struct-Arm, Step::Member, Step::Index'}
use Rattle.dsl_syntax.specs.declared.step.Step.{Step}
use Rattle.dsl_statements.specs.declared.choices.Choice.{Choice}
use Rattle.dsl_statements.specs.declared.choices.Otherwise.{Otherwise}
use Rattle.dsl_statements.specs.declared.choices.Otherwise.TheVariants as otherwise
use Rattle.dsl_statements.specs.declared.assignments.Setting.{Setting}
use Rattle.dsl_statements.specs.declared.targets.Target.{Target}
use Rattle.dsl_grammar.specs.Grammar as grammar

-- the parts of an `if`
abbrev pub choice_view : Choice → grammar.Choice
choice_view c = grammar.choice (arms_view c.arms.items) (stmts_view c.other.items) c.more

abbrev pub otherwise_view : Otherwise → grammar.Otherwise
otherwise_view (otherwise.If a) = grammar.else_if (armed_view a)
otherwise_view (otherwise.Block b) = grammar.else_block (stmts_view b.items)

-- the parts of an assignment
abbrev pub setting_view : Setting → grammar.Setting
setting_view s = grammar.setting s.op (expr_view s.expr)

abbrev pub target_view : Target → grammar.Target
target_view t = grammar.target (base_view t.base) (steps_view t.steps.items)

abbrev pub maybe_target_view : Option Target → Option grammar.Target
maybe_target_view None = None
maybe_target_view (Some t) = Some (target_view t)

-- a target with one step more
abbrev pub with_step : Step → Option grammar.Target → Option grammar.Target
with_step (Step::Member t) o = grammar.with_member t o
with_step (Step::Index' l k) o = grammar.with_index (expression l (expr_kind_view k)) o

-- the assignment to what an expression leads to
abbrev pub set_of_left : Expression → grammar.Setting → StatementKind
set_of_left e x = grammar.set_value (grammar.assigned (grammar.maybe_set (eval e) (grammar.stepped (grammar.target_of e))) x)

-- the statement of a word and an expression
abbrev pub worded : Word → Expression → StatementKind
worded words.Assign e = assign e
worded words.Ignore e = ignore e
worded words.Import e = import e
worded w e = throw e
