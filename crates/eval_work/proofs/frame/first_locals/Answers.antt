use Rattle.std.proofs.Common.{subst, sym}
use Rattle.dsl_value.specs.Whole.{NamesAll}
use Rattle.eval_work.proofs.frame.first_locals.Goals as goal

pub returns-clause-named : goal.returns-clause-named
returns-clause-named c = λ cells functions a h. c.in_ok-put_left.ensures.named cells functions (c.in_ok-put_all.ensures.named cells functions (subst (NamesAll cells functions) (sym c.requires) tt) a) h
