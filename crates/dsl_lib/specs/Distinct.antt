-- Distinct values that were taken.
use Rattle.std.specs.Prelude.{length}
use Rattle.std.specs.List.{AllByRecursion}
use Rattle.dsl_value.specs.Contents.{Contents}
use Rattle.dsl_value.specs.Whole.{Names}
use Rattle.dsl_ops.specs.Seen.{IsSeen}
use Rattle.dsl_lib.specs.declared.distinct.Distinct.{Distinct}

-- they name cells and functions of a store, and an equal one is found among them
pub record Finds (s : Contents) (d : Distinct) : Type 0 where
  pub seen : IsSeen (length s.cells) (length s.functions) s.cells d.items d.seen
  pub stand : AllByRecursion (Names (length s.cells) (length s.functions)) d.items
