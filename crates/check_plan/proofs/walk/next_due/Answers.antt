-- As many are outstanding as may be.
use Rattle.std.proofs.Common.{ap, arith}
use Rattle.site_model.specs.PlainSite.{PlainSite}
use Rattle.run_meaning.specs.Schedule.{due_from}
use Rattle.check_plan.proofs.Ending.{no_room}
use Rattle.check_plan.proofs.walk.next_due.Goals as goal

pub returns-else-outstanding-setting-clause-none : goal.returns-else-outstanding-setting-clause-none
returns-else-outstanding-setting-clause-none c = λ command o w site moment outstanding.
    no_room command o (due_from c.args.setting.now.moment 0 c.args.watches.now) w (let e = ap (λ (s : PlainSite). s.max_orders) site in let f = c.if-outstanding-setting.false in omega (arith, e, f, outstanding))
