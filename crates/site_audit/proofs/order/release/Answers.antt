use Rattle.std.proofs.Common.{◌∙◌, ap, sym, arith}
use Rattle.std.specs.BTreeSet.{insert_key}
use Rattle.std.specs.Ordering.{nat_cmp}
use Rattle.site_audit.specs.Order.{zeros}
use Rattle.site_audit.proofs.Ordering.{counted_down, still_waits}
use Rattle.site_audit.proofs.order.release.Goals as goal

pub returns-then-count_down-gt0-clause-ready : goal.returns-then-count_down-gt0-clause-ready
returns-then-count_down-gt0-clause-ready c =
    let some = c.if-count_down-gt0.true in
    c.requires.ready
    ∙ (still_waits c.args.k c.count_down.result c.args.waits.now.items c.count_down.ensures.left (λ e. absurd (omega (arith, some, e)))
    ∙ ap zeros (sym c.count_down.ensures.waits))

pub returns-clause-ready : goal.returns-clause-ready
returns-clause-ready c =
    let none = c.if-count_down-gt0.false in
    c.in_ok-insert.ensures.keys
    ∙ (ap (λ ks. insert_key nat_cmp ks c.args.k) c.requires.ready
    ∙ (counted_down c.args.k c.count_down.result c.args.waits.now.items c.requires.within c.count_down.ensures.left (omega (arith, none)) ∙ ap zeros (sym c.count_down.ensures.waits)))
