-- A result may trigger downtimes, any other event that moves none leaves them.
use Rattle.std.proofs.Common.{◌∙◌, ap}
use Rattle.run_meaning.specs.Downtimes.{calls_from}
use Rattle.run_meaning.specs.View.{status_in}
use Rattle.checkable_core.proofs.Calls.{named_with_result, named_without, no_status}
use Rattle.checkable_core.proofs.downtimes.in_effect_with.Goals as goal

pub returns-in-Result : goal.returns-in-Result
returns-in-Result c check h e stands so at when stays =
    c.in_effect_after.ensures.value (calls_from check 1 h) stands
    ∙ named_with_result check h e c.args.event.now c.args.moment c.args.problem c.in-Result.status (ap status_in c.in-Result.is) so at when

pub returns-in_default : goal.returns-in_default
returns-in_default c check h e stands so at when stays =
    c.in_effect.ensures.value (calls_from check 1 h) stands
    ∙ named_without check h e c.args.event.now c.args.moment (no_status c.args.event.now c.in_default.not-Result) stays at
