-- The spans so far, and those of the names that are left, are all.
use Rattle.std.proofs.Common.{◌≡◌, ◌++◌, drop}
use Rattle.site_base.specs.View.{items_view}
use Rattle.object_values.specs.Values.{texts_of}
use Rattle.object_lists.specs.Periods.{spans_named}
use Rattle.object_lists.proofs.periods.spans_named.Given as goal

abbrev pub invariant-loop-item : goal.invariant-loop-item
invariant-loop-item l = l.found.items ++ spans_named l.names l.own (texts_of (items_view (drop l.item-index l.wanted))) ≡ spans_named l.names l.own (texts_of (items_view l.wanted))
