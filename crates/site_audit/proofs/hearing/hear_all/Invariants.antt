use Rattle.std.proofs.Common.{◌≡◌, map}
use Rattle.std.specs.Vec.Iter.{into_iter_items}
use Rattle.site_model.specs.PlainSite.{check_view}
use Rattle.site_audit.specs.Hearing.{entries_heard}
use Rattle.site_audit.specs.Telling.{after_entries}
use Rattle.site_audit.proofs.hearing.hear_all.Given as goal

-- what the rest tells behind what is heard is what all tell, and the orders after the rest are those after all
abbrev pub invariant-loop-entry : goal.invariant-loop-entry
invariant-loop-entry l =
    (entries_heard l.callers (map (λ c. c.name) (map check_view l.checks)) l.orders.items (into_iter_items l.entry-iterator) l.all ≡ entries_heard l.fn.callers (map (λ c. c.name) (map check_view l.fn.checks)) l.fn.orders.items l.fn.entries.items l.fn.heard)
    × (after_entries l.orders.items (into_iter_items l.entry-iterator) ≡ after_entries l.fn.orders.items l.fn.entries.items)
