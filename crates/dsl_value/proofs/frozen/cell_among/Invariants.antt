use Rattle.std.proofs.Common.{◌≡◌, ◌<◌, drop, length}
use Rattle.dsl_value.specs.Contents.{cell_at}
use Rattle.dsl_value.specs.Parts.{all_of}
use Rattle.dsl_value.proofs.frozen.cell_among.Given as goal

-- the cell is among the layers that are left
abbrev pub invariant-loop-layer : goal.invariant-loop-layer
invariant-loop-layer l = (cell_at (all_of (drop l.layer-index l.layers)).cells l.left ≡ cell_at (all_of l.layers).cells l.cell) × (l.left < length (all_of (drop l.layer-index l.layers)).cells)
