-- The memberships of the users so far, and those of what is left, are all.
use Rattle.std.proofs.Common.{drop}
use Rattle.object_lists.specs.Listed.{lent_view}
use Rattle.object_lists.specs.Users.{memberships_from}
use Rattle.object_lists.proofs.MemberLaws.{AreSoFar}
use Rattle.object_lists.proofs.members.members_of.Given as goal

abbrev pub invariant-loop-place : goal.invariant-loop-place
invariant-loop-place l = AreSoFar l.members (memberships_from l.place (lent_view (drop l.place l.users))) (memberships_from 0 (lent_view l.users))
