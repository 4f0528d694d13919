use Rattle.dsl_lib.proofs.Stand.{sorted_stand}
use Rattle.dsl_lib.proofs.sorting.sort.Goals as goal

pub returns-clause-stands : goal.returns-clause-stands
returns-clause-stands c = sorted_stand _ _ c.in_ok-items.items.now _ c.in_ok-sorted.ensures
