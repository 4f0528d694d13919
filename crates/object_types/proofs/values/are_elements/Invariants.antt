use Rattle.std.proofs.Common.{◌≡◌, drop}
use Rattle.site_base.specs.View.{items_view}
use Rattle.object_types.specs.Values.{are_elements}
use Rattle.object_types.proofs.values.are_elements.Given as goal

abbrev pub invariant-loop-item : goal.invariant-loop-item
invariant-loop-item l = are_elements l.element (items_view (drop l.item-index l.items)) ≡ are_elements l.element (items_view l.items)
