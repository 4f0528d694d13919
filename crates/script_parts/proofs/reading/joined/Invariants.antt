-- The turns so far are those of the parts so far.
use Rattle.std.specs.Vec.Iter.{into_iter_items}
use Rattle.script_parts.proofs.Joining.{IsJoined}
use Rattle.script_parts.proofs.reading.joined.Given as goal

abbrev pub invariant-loop-part : goal.invariant-loop-part
invariant-loop-part l = IsJoined l._bytes l.turns.items (into_iter_items l.part-iterator)
