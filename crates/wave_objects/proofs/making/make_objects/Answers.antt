-- One item more was made, and is no longer among those that are left.
use Rattle.std.proofs.Common.{◌≡◌, ◌++◌, ◌∙◌, ap, map, sym, subst, append_assoc}
use Rattle.std.specs.List.{filter, flat_map}
use Rattle.std.specs.Vec.Iter.{into_iter_items}
use Rattle.site_base.specs.declared.diag.Diag.{Diag}
use Rattle.site_model.specs.PlainSite.{PlainObject, object_view}
use Rattle.eval_meaning.specs.Registered.{PlainItem}
use Rattle.eval_work.specs.Works.{view_of, plain_item}
use Rattle.commit_meaning.specs.Answers.{made_in, diags_in}
use Rattle.commit_meaning.specs.Items.{item_answer}
use Rattle.commit_meaning.specs.Waves.{group_made}
use Rattle.wave_order.specs.WaveItems.{AreWaitingIn, plain_pending}
use Rattle.wave_objects.specs.Captured.{AreNamed}
use Rattle.wave_objects.specs.Steps.{groups_by}
use Rattle.wave_objects.proofs.TaskLaws.{by_test}
use Rattle.wave_objects.proofs.making.make_objects.Goals as goal

pub loop-pending-preserved : goal.loop-pending-preserved
loop-pending-preserved c =
    let v = view_of c.args.view.now in
    let store = c.args.view.now.store.now in
    let so_far = c.loop-pending.invariant in
    let i = plain_pending c.in-Some.pending in
    let rest = into_iter_items c.next.new.self in
    let left = map plain_pending rest in
    let step = c.in-Some.ensures.steps.0 in
    let objects = map object_view c.loop-pending.made.objects.items in
    let groups = map plain_item c.loop-pending.made.groups.items in
    let faults = c.loop-pending.made.faults in
    let of_item = λ (j : PlainItem). made_in (item_answer v j) in
    let told_of = λ (j : PlainItem). diags_in (item_answer v j) in
    let ensures = c.in_ok-make.ensures in (
      ap (λ os. os ++ flat_map of_item left) ensures.objects
          ∙ (append_assoc objects (of_item i) (flat_map of_item left)
          ∙ (ap (λ ps. objects ++ flat_map of_item (map plain_pending ps)) (sym step) ∙ so_far.0)),
      (
        ap (λ is. is ++ filter (group_made v) left) ensures.groups
            ∙ (append_assoc groups (groups_by i (item_answer v i)) (filter (group_made v) left)
            ∙ (ap (λ is. groups ++ is) (by_test (group_made v i) i (filter (group_made v) left))
            ∙ (ap (λ ps. groups ++ filter (group_made v) (map plain_pending ps)) (sym step) ∙ so_far.1.0))),
        (
          ap (λ ds. ds ++ flat_map told_of left) ensures.faults
              ∙ (append_assoc faults (told_of i) (flat_map told_of left)
              ∙ (ap (λ ps. faults ++ flat_map told_of (map plain_pending ps)) (sym step) ∙ so_far.1.1.0)),
          (
            (subst (λ ps. AreNamed store (map plain_pending ps)) step so_far.1.1.1.0).1,
            (subst (AreWaitingIn store) step so_far.1.1.1.1).1,
          ),
        ),
      ),
    )
