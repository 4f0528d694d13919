use Rattle.std.specs.Vec.Iter.{into_iter_items}
use Rattle.live_world.specs.Turns.{numbers}
use Rattle.live_world.proofs.Splits.{AreSplit}
use Rattle.live_world.proofs.reports.split_off_reports.Given as goal

abbrev pub invariant-loop-order : goal.invariant-loop-order
invariant-loop-order g l = AreSplit (numbers l.fn.running.items) l.reports l.left.items (into_iter_items l.order-iterator)
