use Rattle.dsl_syntax.specs.SyntaxView.{base_view}
use Rattle.dsl_statements.proofs.Steps.{one_step}
use Rattle.dsl_statements.proofs.targets.with_step.Goals as goal

pub returns-in_ok-push-in-Some : goal.returns-in_ok-push-in-Some
returns-in_ok-push-in-Some c =
    let t = c.in-Some.field-0 in
    rw (c.in_ok-push-in-Some.ensures.items, c.in-Some.is) (one_step (base_view t.base) t.steps.items c.args.step)
