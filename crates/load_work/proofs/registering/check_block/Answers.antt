use Rattle.dsl_syntax.proofs.SyntaxRows.{block_fields}
use Rattle.load_work.proofs.registering.check_block.Goals as goal

pub returns : goal.returns
returns c = rw (block_fields c.args.body.now, ← c.deref.ensures.value) c.check_body.ensures
