use Rattle.std.proofs.Common.{◌≡◌, drop}
use Rattle.dsl_syntax.specs.SyntaxView.{stmts_view}
use Rattle.eval_work.specs.Works.{state_of, view_of}
use Rattle.commit_meaning.specs.Conditions.{judged, no_verdict}
use Rattle.item_start.specs.Ready.{IsReady}
use Rattle.rule_expressions.specs.Plain.{plain_verdict}
use Rattle.rule_expressions.proofs.conditions.judge_all.Given as goal

abbrev pub invariant-loop-statement : goal.invariant-loop-statement
invariant-loop-statement l =
    (judged (view_of l.view) (stmts_view (drop l.statement-index l.body)) (plain_verdict l.verdict) (state_of l.work) ≡ judged (view_of l.view) (stmts_view l.body) no_verdict (state_of l.fn.work))
    × IsReady l.view l.work
