-- What an entry tells of its event.
use Rattle.std.proofs.Common.{refl, ap}
use Rattle.run_meaning.specs.View.{status_in}
use Rattle.site_model.specs.PlainSite.{check_view}
use Rattle.checkable_core.proofs.Steps.{told_as}
use Rattle.checkable_core.proofs.stepping.follow.Goals as goal

pub returns-in-Result : goal.returns-in-Result
returns-in-Result c h stands = c.step_result.ensures.stands h c.args.entry.now stands (record { moment = refl; result = ap status_in c.in-Result.is })

pub returns-in_default : goal.returns-in_default
returns-in_default c h stands =
    let e = c.args.entry.now in
    c.step_kept.ensures.stands (check_view c.args.spec.now) h e stands (record { event = refl; taken = told_as e.event e.taken e.taken refl })
