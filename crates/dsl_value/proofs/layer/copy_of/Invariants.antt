use Rattle.std.proofs.Common.{◌≡◌, map, take}
use Rattle.dsl_value.specs.Contents.{plain, function}
use Rattle.dsl_value.proofs.layer.copy_of.Given as goal

abbrev pub invariant-loop-cell : goal.invariant-loop-cell
invariant-loop-cell l = map plain l.cells.items ≡ map plain (take l.cell-index l.part.cells.items)

abbrev pub invariant-loop-func : goal.invariant-loop-func
invariant-loop-func l = map function l.functions.items ≡ map function (take l.func-index l.part.functions.items)
