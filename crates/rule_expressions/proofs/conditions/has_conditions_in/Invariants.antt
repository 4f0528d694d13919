use Rattle.std.proofs.Common.{◌≡◌, drop}
use Rattle.dsl_syntax.specs.SyntaxView.{stmts_view}
use Rattle.rule_expressions.specs.Conditional.{has_conditions}
use Rattle.rule_expressions.proofs.conditions.has_conditions_in.Given as goal

abbrev pub invariant-loop-statement : goal.invariant-loop-statement
invariant-loop-statement l = has_conditions (stmts_view (drop l.statement-index l.body)) ≡ has_conditions (stmts_view l.body)
