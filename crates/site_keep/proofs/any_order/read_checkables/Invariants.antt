-- What is told so far, with what is left, is told of all.
use Rattle.std.proofs.Common.{◌≡◌, drop}
use Rattle.serde_json.specs.View.{items_view}
use Rattle.site_model.specs.PlainSite.{site_view}
use Rattle.site_keep.specs.Reading.{none_told, with_all}
use Rattle.site_keep.specs.Slots.{told_of, AreSlots}
use Rattle.site_keep.proofs.any_order.read_checkables.Given as goal

abbrev pub invariant-loop-checkable : goal.invariant-loop-checkable
invariant-loop-checkable l =
    (with_all (site_view l.site) (told_of l.slots.items) (items_view (drop l.checkable-index l.checkables)) ≡ with_all (site_view l.site) (none_told (site_view l.site)) (items_view l.checkables))
    × AreSlots (site_view l.site) l.slots.items
