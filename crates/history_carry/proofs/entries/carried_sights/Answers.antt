-- One sight after the other.
use Rattle.site_model.specs.declared.sight.Sight.{Sight}
use Rattle.history_carry.specs.Entries.{carried_sight}
use Rattle.history_carry.proofs.Filtered.{step}
use Rattle.history_carry.proofs.entries.carried_sights.Goals as goal

pub loop-sight-preserved : goal.loop-sight-preserved
loop-sight-preserved c =
    let none : Sight = record { checkable = 0; count = 0 } in
    step (carried_sight c.args.moves.now) c.args.sights.now c.loop-sight.sight-index none c.loop-sight.carried.items c.push_some.new.items.items c.carried_sight.result c.loop-sight-test.true c.loop-sight.invariant c.carried_sight.ensures c.in_ok-push_some.ensures
