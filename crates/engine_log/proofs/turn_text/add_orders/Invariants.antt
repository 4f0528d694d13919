-- The lines so far, followed by those of the rest, are all.
use Rattle.std.proofs.Common.{◌≡◌, ◌++◌, map, drop}
use Rattle.site_model.specs.PlainSite.{site_view}
use Rattle.turn_engine.specs.Orders.{order_as}
use Rattle.run_text.specs.LogText.{ordered_line}
use Rattle.engine_log.proofs.turn_text.add_orders.Given as goal

abbrev pub invariant-loop-order : goal.invariant-loop-order
invariant-loop-order l =
    l.lines ++ map (ordered_line l.style (site_view l.site)) (map order_as (drop l.order-index l.orders)) ≡ l.initial.lines ++ map (ordered_line l.style (site_view l.site)) (map order_as l.fn.orders)
