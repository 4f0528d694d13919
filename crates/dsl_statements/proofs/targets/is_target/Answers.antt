use Rattle.std.proofs.Common.{sym, ◌∙◌}
use Rattle.dsl_syntax.specs.SyntaxView.{expr_view}
use Rattle.dsl_grammar.specs.Grammar.{target_of}
use Rattle.dsl_statements.proofs.Steps.{some_member, some_index}
use Rattle.dsl_statements.proofs.targets.is_target.Goals as goal

pub returns-in-Member : goal.returns-in-Member
returns-in-Member c = rw (c.in-Member.is, ← c.deref.ensures) (c.leads_on.ensures ∙ sym (some_member c.in-Member.field-1 (target_of (expr_view c.deref.result.now))))

pub returns-in-Index : goal.returns-in-Index
returns-in-Index c =
    rw (c.in-Index.is, ← c.deref-in-Index.ensures)
    (c.leads_on-in-Index.ensures ∙ sym (some_index (expr_view c.in-Index.field-1.value) (target_of (expr_view c.deref-in-Index.result.now))))
