-- The copies so far, and those that are left, are all.
use Rattle.std.proofs.Common.{◌≡◌, ◌++◌, drop, map}
use Rattle.site_base.specs.View.{view}
use Rattle.group_growth.proofs.growing.copy_items.Given as goal

abbrev pub invariant-loop-item : goal.invariant-loop-item
invariant-loop-item l = map view l.copies.items ++ map view (drop l.item-index l.items) ≡ map view l.items
