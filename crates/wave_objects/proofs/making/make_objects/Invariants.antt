-- What was made, and what is made of the items that are left, is what is made of all.
use Rattle.std.proofs.Common.{◌≡◌, ◌++◌, map}
use Rattle.std.specs.List.{filter, flat_map}
use Rattle.std.specs.Vec.Iter.{into_iter_items}
use Rattle.site_model.specs.PlainSite.{object_view}
use Rattle.eval_work.specs.Works.{view_of, plain_item}
use Rattle.commit_meaning.specs.Answers.{made_in, diags_in}
use Rattle.commit_meaning.specs.Items.{item_answer}
use Rattle.commit_meaning.specs.Waves.{group_made}
use Rattle.wave_order.specs.WaveItems.{AreWaitingIn, plain_pending}
use Rattle.wave_objects.specs.Captured.{AreNamed}
use Rattle.wave_objects.proofs.making.make_objects.Given as goal

abbrev pub invariant-loop-pending : goal.invariant-loop-pending
invariant-loop-pending l =
    (map object_view l.made.objects.items ++ flat_map (λ i. made_in (item_answer (view_of l.view) i)) (map plain_pending (into_iter_items l.pending-iterator))
    ≡ flat_map (λ i. made_in (item_answer (view_of l.view) i)) (map plain_pending l.fn.items.items))
    × ((map plain_item l.made.groups.items ++ filter (group_made (view_of l.view)) (map plain_pending (into_iter_items l.pending-iterator))
    ≡ filter (group_made (view_of l.view)) (map plain_pending l.fn.items.items))
    × ((l.made.faults ++ flat_map (λ i. diags_in (item_answer (view_of l.view) i)) (map plain_pending (into_iter_items l.pending-iterator))
    ≡ flat_map (λ i. diags_in (item_answer (view_of l.view) i)) (map plain_pending l.fn.items.items))
    × (AreNamed l.view.store.now (map plain_pending (into_iter_items l.pending-iterator))
    × AreWaitingIn l.view.store.now (into_iter_items l.pending-iterator))))
