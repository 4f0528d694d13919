use Rattle.std.proofs.Common.{◌≡◌, drop}
use Rattle.site_audit.specs.Telling.{after_orders}
use Rattle.site_audit.proofs.told.add_orders.Given as goal

-- the orders after the rest are those after all
abbrev pub invariant-loop-order : goal.invariant-loop-order
invariant-loop-order l = after_orders l.orders.items (drop l.order-index l.ordered) ≡ after_orders l.fn.orders.items l.ordered
