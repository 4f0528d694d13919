-- Where one can't be started, those before it were.
use Rattle.std.proofs.Common.{rules, ◌≡◌}
use Rattle.live_world.specs.Turns.{StartsPart, numbers}
use Rattle.live_world.proofs.Starting.{starts_part}
use Rattle.live_world.proofs.live_world.LiveWorld.start_each.Goals as goal

pub returns-in_err-start_one-clause-err : goal.returns-in_err-start_one-clause-err
returns-in_err-start_one-clause-err g c =
    let l = c.loop-order in
    let before : numbers c.start_one.new.self.running.items ≡ numbers l.self.running.items = search rules in
    let part : StartsPart c.args.orders.now (numbers c.args.self.now.running.items) (numbers c.start_one.new.self.running.items) =
    starts_part c.args.orders.now (numbers c.args.self.now.running.items) (numbers l.self.running.items) (numbers c.start_one.new.self.running.items) l.order-index before l.invariant.0 in
    search rules
