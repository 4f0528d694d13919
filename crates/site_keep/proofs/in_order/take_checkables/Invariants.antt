-- What is told so far is told by the checkables that were passed.
use Rattle.std.proofs.Common.{length}
use Rattle.site_model.specs.PlainSite.{site_view}
use Rattle.site_keep.specs.Slots.{told_of, AreSlots}
use Rattle.site_keep.proofs.PassLaws.{CheckablesSoFar}
use Rattle.site_keep.proofs.in_order.take_checkables.Given as goal

abbrev pub invariant-checkables : goal.invariant-checkables
invariant-checkables l = CheckablesSoFar (site_view l.site) l.initial.reader l.reader (told_of l.slots.items) × AreSlots (site_view l.site) l.slots.items

abbrev pub decreases-checkables : goal.decreases-checkables
decreases-checkables l = length l.reader
