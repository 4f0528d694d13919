-- The first hands have given their last passes, and the others are as before.
use Rattle.post_rounds.specs.Hands.{AreLastTo}
use Rattle.post_rounds.proofs.closing.last_of_each.Given as goal

abbrev pub invariant-loop-caller : goal.invariant-loop-caller
invariant-loop-caller g l = AreLastTo l.caller l.fn.hands.items l.passes.items l.hands.items
