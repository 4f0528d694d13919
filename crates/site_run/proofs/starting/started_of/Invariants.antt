-- The orders so far, followed by those of the rest, are all.
use Rattle.std.proofs.Common.{◌≡◌, ◌++◌, map}
use Rattle.std.specs.Vec.Iter.{into_iter_items}
use Rattle.turn_engine.specs.Orders.{order_as}
use Rattle.site_run.specs.Starts.{started_of}
use Rattle.site_run.proofs.starting.started_of.Given as goal

abbrev pub invariant-loop-order : goal.invariant-loop-order
invariant-loop-order l = l.started.items ++ started_of (map order_as (into_iter_items l.order-iterator)) ≡ started_of (map order_as l.fn.orders.items)
