use Rattle.dsl_syntax.specs.SyntaxView.{stmts_view}
use Rattle.dsl_statements.proofs.Arms.{one_arm}
use Rattle.dsl_statements.proofs.choices.with_else.Goals as goal

pub returns-in_ok-push-in-If : goal.returns-in_ok-push-in-If
returns-in_ok-push-in-If c =
    let ch = c.args.choice in
    rw (c.in_ok-push-in-If.ensures.items, c.in-If.is) (one_arm ch.arms.items c.in-If.arm (stmts_view ch.other.items) ch.more)
