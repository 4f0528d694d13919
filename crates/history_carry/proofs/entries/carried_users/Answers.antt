-- One user after the other.
use Rattle.std.proofs.Common.{get_or, ap, ◌∙◌}
use Rattle.history_carry.specs.Moves.{moved}
use Rattle.history_carry.proofs.Filtered.{step}
use Rattle.history_carry.proofs.entries.carried_users.Goals as goal

pub loop-user-preserved : goal.loop-user-preserved
loop-user-preserved c =
    let u = get_or c.args.users.now c.loop-user.user-index 0 in
    step (moved c.args.moves.now.users) c.args.users.now c.loop-user.user-index 0 c.loop-user.carried.items c.push_some.new.items.items c.moved.result c.loop-user-test.true c.loop-user.invariant
    (c.moved.ensures ∙ ap (λ ps. moved ps u) c.as_slice.ensures) c.in_ok-push_some.ensures
