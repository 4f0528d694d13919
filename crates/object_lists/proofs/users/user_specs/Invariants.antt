-- The users so far, and those that are left, are all.
use Rattle.std.proofs.Common.{◌≡◌, ◌++◌, map, drop}
use Rattle.object_lists.specs.Listed.{lent_view}
use Rattle.object_lists.specs.Users.{user_of}
use Rattle.object_lists.proofs.users.user_specs.Given as goal

abbrev pub invariant-loop-user : goal.invariant-loop-user
invariant-loop-user l = l.specs.items ++ map (user_of l.periods) (lent_view (drop l.user-index l.users)) ≡ map (user_of l.periods) (lent_view l.users)
