use Rattle.std.proofs.Common.{sym, subst}
use Rattle.std.specs.List.{AllByRecursion}
use Rattle.dsl_value.specs.Whole.{Names}
use Rattle.dsl_lib.proofs.Stand.{texts_stand}
use Rattle.dsl_lib.proofs.splitting.split.Goals as goal

pub returns-clause-stands : goal.returns-clause-stands
returns-clause-stands c = λ cells functions. subst (AllByRecursion (Names cells functions)) (sym c.in_ok-pieces.ensures) (texts_stand _ _ _)
