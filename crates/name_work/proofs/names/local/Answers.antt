use Rattle.std.proofs.Common.{length}
use Rattle.name_work.proofs.names.local.Goals as goal

pub returns-clause-named : goal.returns-clause-named
returns-clause-named c = c.get.ensures.named (length c.args.work.now.store.cells) (length c.args.work.now.store.functions) c.requires.locals
