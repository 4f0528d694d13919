use Rattle.std.proofs.Common.{◌+◌, ◌&&◌, not, min, take, ◌∷◌, Bool, ◌∙◌, ap, reverse, if◌then◌else◌}
use Rattle.site_model.specs.PlainSite.{check_view}
use Rattle.site_model.specs.declared.state.State.{State}
use Rattle.run_meaning.specs.View.{is_hard_problem, is_problem, same_state, problems, ack_after}
use Rattle.check_state.proofs.Results.{many, problem_is, kept_is, view_is, problems_are, change_told, kept_slots, value_is, flapping_is}
use Rattle.check_state.proofs.status.Status.step_result.Goals as goal

pub returns : goal.returns
returns c = record {
  stands = λ h e before is.
      let spec = check_view c.args.spec.now in
      let v = c.args.self.now.view in
      let kept = c.args.self.now.problems in
      let new = c.problems_after-problems.result in
      let n = problems spec (reverse h) in
      let at = c.state_at-state.ensures in
      let new_is = c.problems_after-problems.ensures n before.problems ∙ ap (λ (b : Bool). if b then min (n + 1) spec.max else 0) (c.is_problem.ensures ∙ ap is_problem at) in
      let all = many spec v kept h e c.args.status before.view before.problems is.result in
      let hard_is =
      c.is_hard-hard.ensures all (kept_is spec v kept h e c.args.status before.view before.problems is.result new new_is)
      (c.is_problem-2.ensures ∙ ap is_problem at ∙ problem_is spec v kept h e c.args.status before.view before.problems is.result) in
      let attempt_is = c.attempt_at.ensures ∙ ap (λ (b : Bool). if b then new else 1) (c.is_problem-3.ensures ∙ ap is_problem at) in
      let change_is =
      c.change_after-change.ensures
      ∙ ap (λ (s : State). if is_hard_problem c.is_hard-hard.result s && not (is_hard_problem v.hard v.state && same_state v.state s) then c.args.moment else v.change) at in
      let ack_is = c.ack_after.ensures ∙ ap (λ (s : State). ack_after v.state s v.ack) at in
      let told = c.is_change.ensures ∙ ap (λ (s : State). v.has_result && not (same_state v.state s)) at ∙ change_told spec v kept h e c.args.status before.view before.problems is.result in
      let old = c.args.self.now.changes.slots in
      let slots = c.with-changes.ensures ∙ ap (λ (b : Bool). b ∷ take 19 old) told in
      let value = c.value.ensures ∙ value_is spec v kept h e c.args.status before.view before.problems is.result old c.with-changes.result.slots before.changes slots in
      let flapping = flapping_is spec v kept h e c.args.status before.view before.problems is.result c.flapping_after.result c.value.result value c.flapping_after.ensures in
      record {
        view = view_is spec v kept h e c.args.status before.view before.problems is.result c.state_at-state.result c.is_hard-hard.result new c.attempt_at.result c.change_after-change.result c.ack_after.result c.args.moment at hard_is new_is attempt_is is.moment change_is ack_is c.flapping_after.result flapping;
        active = before.active;
        notify = before.notify;
        changes = kept_slots spec v kept h e c.args.status before.view before.problems is.result old c.with-changes.result.slots before.changes slots;
        problems = problems_are spec v kept h e c.args.status before.view before.problems is.result new new_is;
      };
}
