use Rattle.std.proofs.Common.{◌≡◌, ◌++◌, drop, map}
use Rattle.eval_steps.specs.Loops.{element_turn}
use Rattle.eval_steps.proofs.loops.element_turns.Given as goal

abbrev pub invariant-loop-item : goal.invariant-loop-item
invariant-loop-item l = l.turns.items ++ map element_turn (drop l.item-index l.items) ≡ map element_turn l.items
