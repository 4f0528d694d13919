-- What is left to add gives what all of it gives, and the strings of the list are known.
use Rattle.std.proofs.Common.{◌≡◌, drop}
use Rattle.site_base.specs.View.{items_view}
use Rattle.group_growth.specs.Adding.{with_names}
use Rattle.group_growth.specs.Strings.{HasStrings, texts_in}
use Rattle.group_growth.proofs.listing.add_many.Given as goal

abbrev pub invariant-loop-name : goal.invariant-loop-name
invariant-loop-name l = record {
  names : with_names (drop l.name-index l.names) (items_view l.items.items) ≡ with_names l.names (items_view l.fn.items.items);
  known : HasStrings (texts_in l.strings.keys) (items_view l.items.items);
}
