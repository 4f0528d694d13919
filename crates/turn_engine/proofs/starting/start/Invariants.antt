-- What is started so far, followed by what the rest gives, is all.
use Rattle.std.proofs.Common.{◌≡◌, ◌++◌, map, drop}
use Rattle.check_plan.specs.Walks.{ordered_as}
use Rattle.run_meaning.specs.Runs.{due_of}
use Rattle.site_model.specs.PlainSite.{site_view}
use Rattle.run_text.specs.TurnReading.{report_read}
use Rattle.turn_engine.specs.Orders.{command_of, order_as}
use Rattle.turn_engine.proofs.starting.start.Given as goal

abbrev pub invariant-loop-order : goal.invariant-loop-order
invariant-loop-order l =
    let f = ordered_as (command_of (site_view l.site)) in
    record {
      orders : map order_as l.started.orders.items ++ map f (drop l.order-index l.ordered) ≡ map f l.ordered;
      not_started : map report_read l.started.not_started.items ++ due_of (map f (drop l.order-index l.ordered)) ≡ due_of (map f l.ordered);
    }
