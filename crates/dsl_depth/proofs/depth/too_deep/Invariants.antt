use Rattle.std.proofs.Common.{◌≡◌, ◌≤◌, drop}
use Rattle.dsl_depth.specs.Depth.{deep_at, deep_from}
use Rattle.dsl_depth.specs.DepthView.{depth_view, IsWhole}
use Rattle.dsl_depth.proofs.depth.too_deep.Given as goal

abbrev pub invariant-loop-index : goal.invariant-loop-index
invariant-loop-index l = record {
  exact : deep_at l.tokens ≡ deep_from l.index (depth_view l.weight) (drop l.index l.tokens);
  whole : IsWhole l.weight;
  small : l.weight.whole ≤ 200;
}
