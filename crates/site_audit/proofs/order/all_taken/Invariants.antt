use Rattle.std.proofs.Common.{◌≡◌, ◌-◌, [], map}
use Rattle.run_meaning.specs.Turns.{from_on}
use Rattle.site_audit.specs.Order.{blocked, order_from, zeros}
use Rattle.site_audit.proofs.order.all_taken.Given as goal

-- counts are those behind what is taken, and going on from there comes to all
abbrev pub invariant-loop : goal.invariant-loop
invariant-loop l =
    (l.waits.items ≡ map (blocked l.order.items l.pairs) (from_on 0 l.count)) × (l.ready.keys ≡ zeros l.waits.items) × (order_from (l.count - l.counter) l.count l.pairs l.order.items ≡ order_from l.count l.count l.pairs [])
