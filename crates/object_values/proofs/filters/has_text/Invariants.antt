use Rattle.std.proofs.Common.{◌≡◌, drop}
use Rattle.site_base.specs.View.{items_view}
use Rattle.object_values.specs.Filters.{has_text}
use Rattle.object_values.proofs.filters.has_text.Given as goal

abbrev pub invariant-loop-item : goal.invariant-loop-item
invariant-loop-item l = has_text l.text (items_view (drop l.item-index l.items)) ≡ has_text l.text (items_view l.items)
