-- The map has the places of the numbers so far.
use Rattle.std.proofs.Common.{take}
use Rattle.depend_graph.specs.Positions.{HasPlaces}
use Rattle.depend_graph.proofs.positions.Positions.of.Given as goal

abbrev pub invariant-loop-place : goal.invariant-loop-place
invariant-loop-place l = HasPlaces l.by_number (take l.place l.numbers)
