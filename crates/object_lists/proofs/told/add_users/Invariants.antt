-- What is told so far, with the users that are left, is all.
use Rattle.std.proofs.Common.{◌≡◌, drop}
use Rattle.site_base.specs.View.{items_view}
use Rattle.object_values.specs.Values.{texts_of}
use Rattle.object_lists.specs.Receivers.{users_named, with_new}
use Rattle.object_lists.proofs.told.add_users.Given as goal

abbrev pub invariant-loop-item : goal.invariant-loop-item
invariant-loop-item l =
    with_new l.told.keys (users_named l.users (texts_of (items_view (drop l.item-index l.named)))) ≡ with_new l.initial.told.keys (users_named l.users (texts_of (items_view l.named)))
