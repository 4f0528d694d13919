use Rattle.std.proofs.Common.{◌≡◌, drop}
use Rattle.std.specs.List.{list_all}
use Rattle.dsl_lib.specs.Limits.{is_scalar}
use Rattle.dsl_lib.proofs.over.are_scalars.Given as goal

-- what is left decides
abbrev pub invariant-loop-item : goal.invariant-loop-item
invariant-loop-item l = list_all is_scalar (drop l.item-index l.items) ≡ list_all is_scalar l.items
