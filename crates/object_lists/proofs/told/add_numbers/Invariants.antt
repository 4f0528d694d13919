-- What is told so far, with the users that are left, is all.
use Rattle.std.proofs.Common.{◌≡◌, drop}
use Rattle.object_lists.specs.Receivers.{with_new}
use Rattle.object_lists.proofs.told.add_numbers.Given as goal

abbrev pub invariant-loop-user : goal.invariant-loop-user
invariant-loop-user l = with_new l.told.keys (drop l.user-index l.users) ≡ with_new l.initial.told.keys l.users
