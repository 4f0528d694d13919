-- What was joined, and what is left to join, is all.
use Rattle.std.proofs.Common.{◌≡◌, ◌++◌, map}
use Rattle.std.specs.List.{flat_map}
use Rattle.std.specs.Vec.Iter.{into_iter_items}
use Rattle.site_model.specs.PlainSite.{object_view}
use Rattle.eval_work.specs.Works.{view_of, plain_item}
use Rattle.commit_meaning.specs.Answers.{diags_in}
use Rattle.commit_meaning.specs.Groups.{grown}
use Rattle.wave_objects.specs.Members.{members_at}
use Rattle.wave_objects.proofs.joining.join_groups.Given as goal

abbrev pub invariant-loop-object : goal.invariant-loop-object
invariant-loop-object l =
    (map object_view l.grown.items ++ map (λ o. grown o (members_at (view_of l.view) (map plain_item l.groups) o)) (map object_view (into_iter_items l.object-iterator))
    ≡ map (λ o. grown o (members_at (view_of l.view) (map plain_item l.groups) o)) (map object_view l.fn.objects.items))
    × (l.faults ++ flat_map (λ o. diags_in (members_at (view_of l.view) (map plain_item l.groups) o)) (map object_view (into_iter_items l.object-iterator))
    ≡ l.fn.faults ++ flat_map (λ o. diags_in (members_at (view_of l.view) (map plain_item l.groups) o)) (map object_view l.fn.objects.items))
