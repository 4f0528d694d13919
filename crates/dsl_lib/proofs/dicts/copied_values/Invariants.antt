use Rattle.std.proofs.Common.{◌≡◌, ◌++◌, map, length}
use Rattle.dsl_lib.specs.Dicts.{value_of}
use Rattle.dsl_lib.proofs.dicts.copied_values.Given as goal

-- the values so far, with those of the pairs that are left
abbrev pub invariant-loop-pair : goal.invariant-loop-pair
invariant-loop-pair l = l.values ++ map value_of l.left ≡ map value_of l.pairs

abbrev pub decreases-loop-pair : goal.decreases-loop-pair
decreases-loop-pair l = length l.left
