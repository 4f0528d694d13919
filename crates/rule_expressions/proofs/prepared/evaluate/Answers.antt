use Rattle.std.proofs.Common.{subst}
use Rattle.dsl_syntax.specs.SyntaxView.{expr_view}
use Rattle.dsl_value.specs.declared.value.Value.{Value}
use Rattle.eval_meaning.specs.Evaluation.{value_of}
use Rattle.eval_work.specs.Works.{state_of, view_of, Gives}
use Rattle.rule_expressions.proofs.Tasks.{task_kept}
use Rattle.rule_expressions.proofs.Evaluating.{ready_kept}
use Rattle.rule_expressions.proofs.prepared.evaluate.Goals as goal

pub returns-clause-gives : goal.returns-clause-gives
returns-clause-gives c =
    subst (λ d. Gives {X = Value} {Y = Value} (λ v. v) c.eval_expr.result (state_of c.eval_expr.new.work) (value_of (view_of c.args.view.now) d (expr_view c.args.expr.now) (state_of c.args.work.now))) c.requires.depth c.eval_expr.ensures.gives

pub returns-clause-ready : goal.returns-clause-ready
returns-clause-ready c = ready_kept c.eval_expr.result c.args.view.now c.args.work.now c.eval_expr.new.work c.requires c.eval_expr.ensures.kept c.eval_expr.ensures.depth

pub returns-clause-task : goal.returns-clause-task
returns-clause-task c = task_kept (view_of c.args.view.now) c.args.work.now.depth (expr_view c.args.expr.now) c.args.work.now c.eval_expr.new.work c.eval_expr.result c.eval_expr.ensures.gives
