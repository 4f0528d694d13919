use Rattle.std.proofs.Common.{◌≡◌, ◌++◌, map, length}
use Rattle.dsl_lib.specs.Dicts.{key_of}
use Rattle.dsl_lib.proofs.dicts.key_values.Given as goal

-- the keys so far, with those of the pairs that are left
abbrev pub invariant-loop-pair : goal.invariant-loop-pair
invariant-loop-pair l = l.keys ++ map key_of l.left ≡ map key_of l.pairs

abbrev pub decreases-loop-pair : goal.decreases-loop-pair
decreases-loop-pair l = length l.left
