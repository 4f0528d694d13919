-- What a step makes of a status stands for the entry.
use Rattle.std.proofs.Common.{◌∙◌, sym, ap, subst}
use Rattle.check_state.specs.Stands.{IsTakenAs}
use Rattle.run_meaning.specs.Acts.{is_taken}
use Rattle.run_meaning.specs.Downtimes.{calls_from, is_live}
use Rattle.run_meaning.specs.View.{status_in}
use Rattle.site_model.specs.PlainSite.{check_view}
use Rattle.checkable_core.proofs.Steps.{taken_so, told_as}
use Rattle.checkable_core.proofs.stepping.step.Goals as goal

pub returns-in-Result-clause-stands : goal.returns-in-Result-clause-stands
returns-in-Result-clause-stands c h e stands is at taken = c.step_result.ensures.stands h e stands (record { moment = at; result = ap status_in (is ∙ c.in-Result.is) })

pub returns-in-Undown-clause-taken : goal.returns-in-Undown-clause-taken
returns-in-Undown-clause-taken c h stands has =
    c.is_live.ensures (calls_from (check_view c.args.spec.now) 1 h) has ∙ ap (is_taken is_live (check_view c.args.spec.now) h c.args.moment) (sym c.in-Undown.is)

pub returns-in-Undown-clause-stands : goal.returns-in-Undown-clause-stands
returns-in-Undown-clause-stands c h e stands is at taken =
    c.step_switch.ensures.stands (check_view c.args.spec.now) h e stands (record { event = is; taken = subst (λ v. IsTakenAs v e.taken c.step_switch.result) (sym c.in-Undown.is) tt })

pub returns-in_default : goal.returns-in_default
returns-in_default c = record {
  taken = λ h stands has. c.step_switch-in_default.ensures.effect ∙ taken_so (check_view c.args.spec.now) h c.args.moment c.args.status.now.view c.args.event.now stands.view c.in_default.not-Undown;
  stands = λ h e stands is at taken. c.step_switch-in_default.ensures.stands (check_view c.args.spec.now) h e stands (record { event = is; taken = told_as c.args.event.now e.taken c.step_switch-in_default.result taken });
}
