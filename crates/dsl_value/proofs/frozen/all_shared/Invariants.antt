use Rattle.std.proofs.Common.{◌≡◌, take}
use Rattle.dsl_value.proofs.frozen.all_shared.Given as goal

-- the layers so far
abbrev pub invariant-loop-layer : goal.invariant-loop-layer
invariant-loop-layer l = l.shared.items ≡ take l.layer-index l.layers
