-- What is begun, met and cleared fits together; each turn takes one that is begun, or meets one for two that it begins.
use Rattle.std.proofs.Common.{◌+◌, ◌*◌, length}
use Rattle.depend_graph.specs.Clearing.{IsClearing, left}
use Rattle.depend_graph.proofs.clearing.clear_begun.Given as goal

abbrev pub invariant-loop-climb : goal.invariant-loop-climb
invariant-loop-climb l = IsClearing l.parents l.met.items l.cleared.items l.begun.items

abbrev pub decreases-loop-climb : goal.decreases-loop-climb
decreases-loop-climb l = 2 * left l.met.items + length l.begun.items
