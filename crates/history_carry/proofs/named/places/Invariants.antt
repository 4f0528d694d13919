-- The places of those that were passed.
use Rattle.std.proofs.Common.{◌≡◌, map, take}
use Rattle.history_carry.specs.Moves.{places_among}
use Rattle.history_carry.proofs.named.places.Given as goal

abbrev pub invariant-loop-thing : goal.invariant-loop-thing
invariant-loop-thing g l = l.places.items ≡ places_among (map g.T.Named.name_of (take l.thing-index l.things)) l.names
