use Rattle.std.proofs.Common.{◌≡◌, Some, sym, ap, ◌∙◌}
use Rattle.dsl_syntax.specs.Syntax.{eval}
use Rattle.dsl_syntax.specs.SyntaxView.{expr_view}
use Rattle.dsl_grammar.specs.Grammar.{target_of, set_value, assigned, maybe_set}
use Rattle.dsl_statements.specs.Parts.{setting_view, target_view, maybe_target_view}
use Rattle.dsl_statements.proofs.Assigning.{stepped_is}
use Rattle.dsl_statements.proofs.assignments.set_left.Goals as goal

pub returns : goal.returns
returns c =
    let left = expr_view c.args.left in
    let led : Some (target_view c.in-Some.target) ≡ target_of left = ap maybe_target_view (sym c.in-Some.is) ∙ c.in_ok-target.ensures in
    c.set_of.ensures (eval left) ∙ ap (λ o. set_value (assigned (maybe_set (eval left) o) (setting_view c.args.setting))) (led ∙ sym (stepped_is (target_of left) c.requires))
