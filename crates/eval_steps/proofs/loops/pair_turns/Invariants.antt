use Rattle.std.proofs.Common.{◌≡◌, ◌++◌, map, length}
use Rattle.eval_steps.specs.Loops.{pair_turn}
use Rattle.eval_steps.proofs.loops.pair_turns.Given as goal

abbrev pub invariant-loop-key : goal.invariant-loop-key
invariant-loop-key l = l.turns.items ++ map pair_turn l.left ≡ map pair_turn l.pairs

abbrev pub decreases-loop-key : goal.decreases-loop-key
decreases-loop-key l = length l.left
