use Rattle.std.proofs.Common.{subst, sym}
use Rattle.dsl_value.specs.Whole.{NamesAll}
use Rattle.eval_work.proofs.Named.{put_if_named}
use Rattle.eval_work.proofs.locals.Locals.put.Goals as goal

pub returns-clause-named : goal.returns-clause-named
returns-clause-named c = λ cells functions a h. put_if_named cells functions c.args.name.now c.args.value c.self.inside.pairs _ c.put.result c.put.ensures.ok (subst (NamesAll cells functions) (sym c.self.view_is) a) h
