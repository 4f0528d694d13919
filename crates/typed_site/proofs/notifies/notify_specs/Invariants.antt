-- The notifications so far, and those that are left, are all.
use Rattle.std.proofs.Common.{◌≡◌, ◌++◌, ℕ, List, drop}
use Rattle.std.specs.List.{flat_map}
use Rattle.std.specs.Option.{option_to_list}
use Rattle.object_lists.specs.Listed.{lent_view}
use Rattle.object_lists.specs.Members.{AreMembers}
use Rattle.typed_site.specs.Notifies.{notify_of}
use Rattle.typed_site.proofs.notifies.notify_specs.Given as goal

abbrev pub invariant-loop-notify : goal.invariant-loop-notify
invariant-loop-notify l =
    (ms : List (List ℕ × ℕ)) → AreMembers ms l.known.groups.now
    → l.specs.items ++ flat_map (λ o. option_to_list (notify_of l.known.periods.now l.known.checkables.now l.known.users.now ms o)) (lent_view (drop l.notify-index l.notifies))
    ≡ flat_map (λ o. option_to_list (notify_of l.known.periods.now l.known.checkables.now l.known.users.now ms o)) (lent_view l.notifies)
