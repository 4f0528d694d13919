-- One order more is started.
use Rattle.std.proofs.Common.{◌+◌, ◌++◌, map, drop, get_or, sym, ap, ◌∙◌}
use Rattle.std.proofs.lemmas.List.{append-nil, drop_all}
use Rattle.check_plan.specs.Walks.{ordered_as}
use Rattle.check_plan.specs.declared.ordered.Ordered.{Ordered}
use Rattle.notify_rules.proofs.Lists.{drop_next}
use Rattle.run_meaning.specs.Runs.{due_of}
use Rattle.site_model.specs.PlainSite.{site_view}
use Rattle.run_text.specs.TurnReading.{report_read}
use Rattle.turn_engine.specs.Orders.{command_of, order_as}
use Rattle.turn_engine.proofs.OneStarted.{due_more, orders_more}
use Rattle.turn_engine.proofs.starting.start.Goals as goal

pub loop-order-preserved : goal.loop-order-preserved
loop-order-preserved c =
    let f = ordered_as (command_of (site_view c.args.site.now)) in
    let i = c.loop-order.order-index in
    let xs = c.args.ordered.now in
    let x : Ordered = get_or xs i (record { number = 0; checkable = 0 }) in
    let is = drop_next i xs (record { number = 0; checkable = 0 }) c.loop-order-test.true in
    record {
      orders = orders_more f x (drop (i + 1) xs) (drop i xs) (map order_as c.loop-order.started.orders.items) _ _ is c.in_ok-start_one.ensures.orders c.loop-order.invariant.orders;
      not_started = due_more f x (drop (i + 1) xs) (drop i xs) (map report_read c.loop-order.started.not_started.items) _ _ is c.in_ok-start_one.ensures.not_started c.loop-order.invariant.not_started;
    }

pub returns-clause-orders : goal.returns-clause-orders
returns-clause-orders c =
    let f = ordered_as (command_of (site_view c.args.site.now)) in
    sym (append-nil (map order_as c.loop-order.started.orders.items)) ∙ ap (λ ys. map order_as c.loop-order.started.orders.items ++ map f ys) (sym (drop_all c.loop-order.order-index c.args.ordered.now c.loop-order-test.false)) ∙ c.loop-order.invariant.orders

pub returns-clause-not_started : goal.returns-clause-not_started
returns-clause-not_started c =
    let f = ordered_as (command_of (site_view c.args.site.now)) in
    sym (append-nil (map report_read c.loop-order.started.not_started.items)) ∙ ap (λ ys. map report_read c.loop-order.started.not_started.items ++ due_of (map f ys)) (sym (drop_all c.loop-order.order-index c.args.ordered.now c.loop-order-test.false)) ∙ c.loop-order.invariant.not_started
