-- The weight so far, with that of the rest, is all.
use Rattle.std.proofs.Common.{◌≡◌, ◌+◌, ◌*◌, ◌≤◌, drop}
use Rattle.run_meaning.specs.View.{weight_from}
use Rattle.check_state.proofs.changes.Changes.value.Given as goal

abbrev pub invariant-loop-i : goal.invariant-loop-i
invariant-loop-i l = record {
  sum : l.weight + weight_from (l.i + 1) (drop l.i l.self.slots) ≡ weight_from 1 l.self.slots;
  few : l.weight ≤ 118 * l.i;
}
