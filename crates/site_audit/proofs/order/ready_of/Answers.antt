use Rattle.std.proofs.Common.{◌∙◌, ap}
use Rattle.site_audit.specs.Order.{zeros}
use Rattle.site_audit.proofs.Ordering.{ready_next, ready_whole}
use Rattle.site_audit.proofs.order.ready_of.Goals as goal

pub loop-k-preserved : goal.loop-k-preserved
loop-k-preserved c = c.in_ok-note.ensures ∙ ready_next c.loop-k.k c.args.waits.now c.loop-k.ready.keys c.loop-k-test.true c.loop-k.invariant

pub returns : goal.returns
returns c = c.loop-k.invariant ∙ ap zeros (ready_whole c.loop-k.k c.args.waits.now c.loop-k-test.false)
