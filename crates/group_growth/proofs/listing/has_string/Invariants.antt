use Rattle.std.proofs.Common.{◌≡◌, drop}
use Rattle.site_base.specs.View.{items_view}
use Rattle.commit_meaning.specs.Groups.{has_string}
use Rattle.group_growth.proofs.listing.has_string.Given as goal

abbrev pub invariant-loop-item : goal.invariant-loop-item
invariant-loop-item l = has_string l.name (items_view (drop l.item-index l.items)) ≡ has_string l.name (items_view l.items)
