-- What is begun, met and cleared fits together.
use Rattle.depend_graph.specs.Clearing.{IsClearing}
use Rattle.depend_graph.proofs.clearing.cleared.Given as goal

abbrev pub invariant-loop-checkable : goal.invariant-loop-checkable
invariant-loop-checkable l = IsClearing l.parents l.met.items l.cleared.items l.begun.items
