use Rattle.std.proofs.Common.{◌≡◌, drop}
use Rattle.dsl_syntax.specs.SyntaxView.{stmts_view}
use Rattle.eval_meaning.specs.Registration.{has_assign}
use Rattle.load_work.proofs.registering.has_assign.Given as goal

abbrev pub invariant-loop-statement : goal.invariant-loop-statement
invariant-loop-statement l = has_assign (stmts_view (drop l.statement-index l.body)) ≡ has_assign (stmts_view l.body)
