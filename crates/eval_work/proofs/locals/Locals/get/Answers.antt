use Rattle.std.proofs.Common.{subst, sym}
use Rattle.dsl_value.specs.Whole.{NamesAll}
use Rattle.eval_work.proofs.Named.{found_named}
use Rattle.eval_work.proofs.locals.Locals.get.Goals as goal

pub returns-clause-named : goal.returns-clause-named
returns-clause-named c = λ cells functions h. found_named cells functions c.args.name.now c.self.inside.pairs c.get.result (subst (NamesAll cells functions) (sym c.self.view_is) h) c.get.ensures.found
