-- One decision after the other.
use Rattle.std.proofs.Common.{ap, ◌∙◌}
use Rattle.history_carry.specs.Entries.{carried_decision}
use Rattle.history_carry.proofs.Filtered.{step}
use Rattle.history_carry.proofs.entries.carried_decisions.Goals as goal

pub loop-decision-preserved : goal.loop-decision-preserved
loop-decision-preserved c =
    let one = c.decision-item.result in
    step (carried_decision c.args.moves.now) c.args.decisions.now c.loop-decision.decision-index one c.loop-decision.carried.items c.push_some.new.items.items c.in_ok-decision.decision c.loop-decision-test.true c.loop-decision.invariant
    (c.in_ok-decision.ensures ∙ ap (carried_decision c.args.moves.now) c.decision-item.is) c.in_ok-push_some.ensures
