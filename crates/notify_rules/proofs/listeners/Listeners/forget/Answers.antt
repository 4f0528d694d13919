use Rattle.std.proofs.Common.{false, arith}
use Rattle.notify_rules.specs.Sent.{forgotten}
use Rattle.notify_rules.proofs.Lists.{met_step}
use Rattle.notify_rules.proofs.listeners.Listeners.forget.Goals as goal

pub loop-listener-preserved : goal.loop-listener-preserved
loop-listener-preserved c =
    met_step forgotten c.args.self.now c.loop-listener.listener-items c.loop-listener.listener-index (record { user = 0; told = false }) c.loop-listener.invariant (omega arith)
