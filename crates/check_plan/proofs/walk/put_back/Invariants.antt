-- Those so far are due again.
use Rattle.std.proofs.Common.{◌≡◌, ℕ, List, length, drop, slice_get, Some, false}
use Rattle.depend_graph.specs.Parents.{has}
use Rattle.run_meaning.specs.Schedule.{Watch, is_waiting}
use Rattle.run_meaning.specs.Turns.{Outstanding}
use Rattle.check_plan.specs.Plans.{slots_in}
use Rattle.check_plan.specs.Walks.{AreAside}
use Rattle.check_plan.proofs.walk.put_back.Given as goal

abbrev pub invariant-loop-checkable : goal.invariant-loop-checkable
invariant-loop-checkable l = record {
  slots : slots_in l.watches ≡ slots_in l.initial.watches;
  many : length l.watches ≡ length l.initial.watches;
  tell : (os : List Outstanding) → AreAside l.initial.watches os l.passed → (i : ℕ) (w : Watch) → slice_get l.watches i ≡ Some w → has i (drop l.checkable-index l.passed) ≡ false → w.waiting ≡ is_waiting os i;
}
