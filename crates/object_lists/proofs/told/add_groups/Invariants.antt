-- What is told so far, with the members that are left, is all.
use Rattle.std.proofs.Common.{◌≡◌, ℕ, List, drop}
use Rattle.site_base.specs.View.{items_view}
use Rattle.object_values.specs.Values.{texts_of}
use Rattle.object_lists.specs.Members.{AreMembers}
use Rattle.object_lists.specs.Receivers.{members_named, with_new}
use Rattle.object_lists.proofs.told.add_groups.Given as goal

abbrev pub invariant-loop-item : goal.invariant-loop-item
invariant-loop-item l =
    (ms : List (List ℕ × ℕ)) → AreMembers ms l.groups
    → with_new l.told.keys (members_named ms (texts_of (items_view (drop l.item-index l.named)))) ≡ with_new l.initial.told.keys (members_named ms (texts_of (items_view l.named)))
