-- One after the other is due again.
use Rattle.std.proofs.Common.{◌≡◌, ◌+◌, length, drop, get_or, slice_get, Some, refl, ap, ◌∙◌, subst, length-set}
use Rattle.std.proofs.lemmas.List.{drop_all}
use Rattle.std.proofs.lemmas.Option.{slice_get-get_or}
use Rattle.depend_graph.specs.Parents.{has}
use Rattle.notify_rules.proofs.Lists.{drop_next}
use Rattle.check_plan.specs.Plans.{slots_in}
use Rattle.check_plan.proofs.Aside.{is_among, one_back, slots_back}
use Rattle.check_plan.proofs.walk.put_back.Goals as goal

pub loop-checkable-init : goal.loop-checkable-init
loop-checkable-init c = record { slots = refl; many = refl; tell = λ os are i w at h. are.tell i w at h }

pub loop-checkable-preserved : goal.loop-checkable-preserved
loop-checkable-preserved c =
    let i = c.loop-checkable.checkable-index in
    let ks = c.args.passed.now in
    let k = get_or ks i 0 in
    let ws = c.loop-checkable.watches in
    record {
      slots = ap slots_in c.set.ensures ∙ slots_back ws k _ _ c.at-watch.ensures refl ∙ c.loop-checkable.invariant.slots;
      many = ap length c.set.ensures ∙ length-set ws k _ ∙ c.loop-checkable.invariant.many;
      tell = λ os are j w at h.
          one_back ws os k (drop (i + 1) ks) _ _ c.at-watch.ensures refl
          (λ j w at h. c.loop-checkable.invariant.tell os are j w at (ap (has j) (drop_next i ks 0 c.loop-checkable-test.true) ∙ h))
          (are.free k (is_among ks i k (slice_get-get_or ks i 0 c.loop-checkable-test.true)))
          j w (subst (λ vs. slice_get vs j ≡ Some w) c.set.ensures at) h;
    }

pub returns-clause-waiting : goal.returns-clause-waiting
returns-clause-waiting c = λ os are i w at.
    c.loop-checkable.invariant.tell os are i w at (ap (has i) (drop_all c.loop-checkable.checkable-index c.args.passed.now c.loop-checkable-test.false))
