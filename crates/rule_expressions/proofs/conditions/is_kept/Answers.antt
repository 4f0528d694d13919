use Rattle.dsl_syntax.proofs.SyntaxRows.{block_fields}
use Rattle.rule_expressions.proofs.conditions.is_kept.Goals as goal

pub returns : goal.returns
returns c = rw (block_fields c.args.body.now, ← c.deref.ensures.value) c.is_kept_by.ensures
