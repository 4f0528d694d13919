-- So many places, each empty.
use Rattle.std.proofs.Common.{◌≡◌, All, length}
use Rattle.site_keep.proofs.SlotLaws.{IsEmpty}
use Rattle.site_keep.proofs.slots.empty_slots.Given as goal

abbrev pub invariant-loop-index : goal.invariant-loop-index
invariant-loop-index l = (length l.slots.items ≡ l.index) × All IsEmpty l.slots.items
