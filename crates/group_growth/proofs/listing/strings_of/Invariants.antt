-- The strings so far, and those that are left, are all.
use Rattle.std.proofs.Common.{◌≡◌, ℕ, List, drop}
use Rattle.std.specs.Prelude.{◌||◌}
use Rattle.std.specs.List.{list_any}
use Rattle.std.specs.Str.{bytes_eq}
use Rattle.site_base.specs.View.{items_view}
use Rattle.commit_meaning.specs.Groups.{has_string}
use Rattle.group_growth.specs.Strings.{texts_in}
use Rattle.group_growth.proofs.listing.strings_of.Given as goal

abbrev pub invariant-loop-item : goal.invariant-loop-item
invariant-loop-item l = (n : List ℕ) → (list_any (bytes_eq n) (texts_in l.strings.keys) || has_string n (items_view (drop l.item-index l.items))) ≡ has_string n (items_view l.items)
