use Rattle.std.proofs.Common.{arith}
use Rattle.site_audit.proofs.Ordering.{all_there, some_left}
use Rattle.site_audit.proofs.order.order_of.Goals as goal

pub returns-then-len-count : goal.returns-then-len-count
returns-then-len-count c =
    let same = c.if-len-count.true in
    let len = c.len.ensures in
    let ok = c.in_ok-order.order.ok.0 in
    all_there c.args.count c.args.pairs.now c.in_ok-order.order.items c.in_ok-order.ensures (omega (arith, same, len, ok))

pub returns-else-len-count : goal.returns-else-len-count
returns-else-len-count c =
    let other = c.if-len-count.false in
    let len = c.len.ensures in
    let ok = c.in_ok-order.order.ok.0 in
    some_left c.args.count c.args.pairs.now c.in_ok-order.order.items c.in_ok-order.ensures (λ e. other (omega (arith, e, len, ok)))
