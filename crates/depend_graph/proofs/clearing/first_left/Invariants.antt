-- Those before the place are cleared.
use Rattle.std.proofs.Common.{◌-◌, length}
use Rattle.depend_graph.specs.Clearing.{AreClearedUpTo}
use Rattle.depend_graph.proofs.clearing.first_left.Given as goal

abbrev pub invariant-loop-place : goal.invariant-loop-place
invariant-loop-place l = AreClearedUpTo l.parents l.cleared l.place

abbrev pub decreases-loop-place : goal.decreases-loop-place
decreases-loop-place l = length l.parents - l.place
