-- What the parser's count of tokens stands for.
use Rattle.std.specs.Prelude.{◌≡◌, ◌+◌, reverse, sum}
use Rattle.dsl_depth.specs.declared.depth.Weight.{Weight}
use Rattle.dsl_depth.specs.Depth.{Depth, depth}

abbrev pub depth_view : Weight → Depth
depth_view w = depth (reverse w.outer.items) w.inner w.whole w.joined

-- the sum is kept
abbrev pub IsWhole : Weight → Type 0
IsWhole w = w.whole ≡ sum w.outer.items + w.inner
