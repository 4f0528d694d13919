-- The checkables so far and the places that are left are those of all places.
use Rattle.std.specs.Vec.Iter.{into_iter_items}
use Rattle.site_model.specs.PlainSite.{site_view}
use Rattle.site_keep.proofs.FillLaws.{Fills}
use Rattle.site_keep.proofs.slots.filled.Given as goal

abbrev pub invariant-loop-slot : goal.invariant-loop-slot
invariant-loop-slot l = Fills (site_view l.site) l.fn.slots.items l.books.items (into_iter_items l.slot-iterator)
