use Rattle.std.proofs.Common.{length, sym, subst}
use Rattle.std.specs.List.{AllByRecursion}
use Rattle.dsl_value.specs.Whole.{Names}
use Rattle.dsl_lib.proofs.Stand.{values_stand}
use Rattle.dsl_lib.proofs.dicts.values.Goals as goal

pub returns-clause-stands : goal.returns-clause-stands
returns-clause-stands c = subst (AllByRecursion (Names (length c.args.store.now.cells) (length c.args.store.now.functions))) (sym c.in_ok-copied_values.ensures) (values_stand _ _ _ c.in_ok-pairs.ensures.stands)
