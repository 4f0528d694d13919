-- So far there is a sight of each.
use Rattle.std.proofs.Common.{◌≡◌, map, take}
use Rattle.checkable_core.specs.Entries.{sight_of}
use Rattle.checkable_core.proofs.sights.sights_of.Given as goal

abbrev pub invariant-loop-checkable : goal.invariant-loop-checkable
invariant-loop-checkable l = l.sights.items ≡ map sight_of (take l.checkable-index l.seen)
