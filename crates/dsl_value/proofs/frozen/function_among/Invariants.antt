use Rattle.std.proofs.Common.{◌≡◌, ◌<◌, drop, length, get_or}
use Rattle.dsl_value.specs.Contents.{PlainFunction}
use Rattle.dsl_value.specs.Parts.{all_of}
use Rattle.dsl_value.proofs.frozen.function_among.Given as goal

-- the function is among the layers that are left
abbrev pub invariant-loop-layer : goal.invariant-loop-layer
invariant-loop-layer l = ((d : PlainFunction) → get_or (all_of (drop l.layer-index l.layers)).functions l.left d ≡ get_or (all_of l.layers).functions l.func d) × (l.left < length (all_of (drop l.layer-index l.layers)).functions)
