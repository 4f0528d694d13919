use Rattle.std.proofs.Common.{◌≡◌, drop}
use Rattle.dsl_syntax.specs.SyntaxView.{stmts_view}
use Rattle.eval_meaning.specs.Registration.{condition_in}
use Rattle.load_work.proofs.registering.condition_in.Given as goal

abbrev pub invariant-loop-statement : goal.invariant-loop-statement
invariant-loop-statement l = condition_in (stmts_view (drop l.statement-index l.body)) ≡ condition_in (stmts_view l.body)
