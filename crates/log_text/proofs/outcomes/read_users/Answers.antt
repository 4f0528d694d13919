use Rattle.std.proofs.Common.{ap, length, sym, ◌∙◌}
use Rattle.log_text.proofs.Loops.{users_end, users_go_on}
use Rattle.log_text.specs.Fronts.{name_at}
use Rattle.log_text.specs.EntryReading.{users_within}
use Rattle.log_text.proofs.outcomes.read_users.Goals as goal

pub loop-preserved : goal.loop-preserved
loop-preserved c =
    rw c.in_ok-push.ensures.ok
    (users_go_on c.args.names.now c.loop.users (length c.args.bytes.now) c.loop.counter c.loop.rest.now c.in_ok-user.after.now c.in-Some.field-0.now c.in_ok-user.user (users_within (length c.args.bytes.now) c.args.names.now c.args.bytes.now) c.loop-test.true
    c.in-Some.ensures (ap (name_at c.args.names.now) (sym c.without_first.ensures) ∙ c.in_ok-user.ensures) c.loop.invariant)

pub returns-in_default : goal.returns-in_default
returns-in_default c =
    users_end c.args.names.now c.loop.users (length c.args.bytes.now) c.loop.counter c.loop.rest.now (users_within (length c.args.bytes.now) c.args.names.now c.args.bytes.now) c.loop-test.true c.in_default.ensures c.loop.invariant
