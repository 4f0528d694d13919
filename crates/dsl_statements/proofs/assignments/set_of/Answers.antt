use Rattle.std.proofs.Common.{ap, ◌∙◌}
use Rattle.dsl_syntax.specs.Syntax.{set}
use Rattle.dsl_syntax.specs.SyntaxView.{base_view, expr_view, steps_view}
use Rattle.dsl_syntax.proofs.SyntaxKinds.{kind_set}
use Rattle.dsl_statements.proofs.assignments.set_of.Goals as goal

pub returns : goal.returns
returns c k =
    kind_set c.args.target.base c.shrink_to_fit.new.self c.args.setting.op c.args.setting.expr
    ∙ ap (λ ss. set (base_view c.args.target.base) (steps_view ss) c.args.setting.op (expr_view c.args.setting.expr)) c.shrink_to_fit.ensures.items
