use Rattle.dsl_syntax.proofs.SyntaxRows.{block_fields}
use Rattle.rule_expressions.proofs.conditions.judge.Goals as goal

pub returns-clause-gives : goal.returns-clause-gives
returns-clause-gives c = rw (block_fields c.args.body.now, ← c.deref.ensures.value) c.judge_all.ensures.gives
