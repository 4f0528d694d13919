-- The memberships of the groups so far, and those of what is left, are all.
use Rattle.std.proofs.Common.{◌++◌, ℕ, List, drop}
use Rattle.site_base.specs.View.{items_view}
use Rattle.object_values.specs.Values.{texts_of}
use Rattle.object_lists.specs.Members.{AreMembers}
use Rattle.object_lists.specs.Users.{in_groups}
use Rattle.object_lists.proofs.MemberLaws.{AreSoFar}
use Rattle.object_lists.proofs.members.Members.add_all.Given as goal

abbrev pub invariant-loop-group : goal.invariant-loop-group
invariant-loop-group l =
    (ms : List (List ℕ × ℕ)) → AreMembers ms l.initial.self
    → AreSoFar l.self (in_groups l.user (texts_of (items_view (drop l.group-index l.groups)))) (ms ++ in_groups l.user (texts_of (items_view l.groups)))
