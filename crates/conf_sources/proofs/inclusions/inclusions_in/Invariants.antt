use Rattle.std.proofs.Common.{◌≡◌, ◌++◌, drop}
use Rattle.dsl_syntax.specs.SyntaxView.{stmts_view}
use Rattle.conf_sources.specs.Inclusions.{inclusions}
use Rattle.conf_sources.proofs.inclusions.inclusions_in.Given as goal

abbrev pub invariant-loop-statement : goal.invariant-loop-statement
invariant-loop-statement l = l.all.items ++ inclusions (stmts_view (drop l.statement-index l.statements)) ≡ inclusions (stmts_view l.statements)
