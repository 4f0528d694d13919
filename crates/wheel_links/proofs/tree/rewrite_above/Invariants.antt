use Rattle.std.proofs.Common.{◌≡◌, ◌*◌, ◌/◌, ◌<◌, length}
use Rattle.wheel_links.specs.Tree.{FitsBut}
use Rattle.wheel_links.proofs.tree.rewrite_above.Given as goal

abbrev pub invariant-loop-node : goal.invariant-loop-node
invariant-loop-node l = record {
  len : length l.inner ≡ length l.fn.inner;
  some : 0 < l.node;
  within : l.node < 2 * length l.inner;
  others : FitsBut (l.node / 2) l.inner l.moments;
}

abbrev pub decreases-loop-node : goal.decreases-loop-node
decreases-loop-node l = l.node
